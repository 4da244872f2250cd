use Rattle.std.proofs.Common.{◌≡◌, ◌+◌, length, rules, arith, ap}
use Rattle.fw_bag.specs.Bag.{expand}
use Rattle.fw_bag.proofs.BagLaws.{length-bag_sum}
use Rattle.fw_bag.proofs.bag.add_all.Goals as goal

pub returns-clause-len : goal.returns-clause-len
returns-clause-len c =
    let xs = expand c.args.others.now.entries in
    let ys = expand c.args.counts.now.entries in
    let total : c.in_ok-total.total ≡ c.args.len.now + c.args.others_len = search rules in
    let sum = ap length c.in_ok-counts.ensures.ok in
    let lengths = length-bag_sum xs ys in
    omega (arith, total, sum, lengths, c.requires.len, c.requires.others_len)
