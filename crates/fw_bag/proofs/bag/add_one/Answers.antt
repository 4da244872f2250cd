use Rattle.std.proofs.Common.{◌≡◌, ◌+◌, length, rules, sym, ap, ◌∙◌}
use Rattle.fw_bag.specs.Bag.{expand}
use Rattle.fw_bag.proofs.BagLaws.{length-with_rec}
use Rattle.fw_bag.proofs.bag.add_one.Goals as goal

pub returns-clause-len : goal.returns-clause-len
returns-clause-len c =
    let xs = expand c.args.counts.now.entries in
    let total : c.in_ok-total.total ≡ length xs + 1 = search rules in
    total ∙ sym (length-with_rec c.args.rec xs) ∙ sym (ap length c.in_ok-raise.ensures.ok)
