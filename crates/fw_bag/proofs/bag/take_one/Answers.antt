use Rattle.std.proofs.Common.{◌<◌, length, arith, refl, sym, ap, ◌∙◌}
use Rattle.fw_bag.specs.Bag.{expand, how_often}
use Rattle.fw_bag.proofs.BagLaws.{length-without_rec, without_rec-none, zero_from_test}
use Rattle.fw_bag.proofs.bag.take_one.Goals as goal

pub returns-then-found-clause-len : goal.returns-then-found-clause-len
returns-then-found-clause-len c =
    let xs = expand c.args.counts.now.entries in
    let there : 0 < how_often c.args.rec xs = c.if-found.ensures.found.0 refl in
    omega (arith, length-without_rec c.args.rec xs there, ap length c.take_copy-found.ensures.taken, c.requires.len)

pub returns-else-found-clause-len : goal.returns-else-found-clause-len
returns-else-found-clause-len c =
    let xs = expand c.args.counts.now.entries in
    let none = without_rec-none c.args.rec xs (zero_from_test _ c.if-found.ensures.found.1) in
    c.requires.len ∙ sym (ap length (c.take_copy-found.ensures.taken ∙ none))
