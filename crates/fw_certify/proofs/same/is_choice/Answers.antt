use Rattle.fw_certify.proofs.CodeLaws.{other-cuts, same-values}
use Rattle.fw_certify.proofs.same.is_choice.Goals as goal

pub returns-then-not-are_same_cuts : goal.returns-then-not-are_same_cuts
returns-then-not-are_same_cuts c = other-cuts c.args.values.now.cuts.items c.args.values.now.notices.items c.args.choice.now c.are_same_cuts.result c.deref.result.now c.as_slice.result.now c.deref.ensures.value c.as_slice.ensures c.if-not-are_same_cuts.true c.are_same_cuts.ensures

pub returns : goal.returns
returns c = same-values c.args.values.now.cuts.items c.args.values.now.notices.items c.args.choice.now c.are_same_cuts.result c.are_same_fronts.result c.deref.result.now c.as_slice.result.now c.deref-2.result.now c.as_slice-2.result.now
    c.deref.ensures.value c.as_slice.ensures c.deref-2.ensures.value c.as_slice-2.ensures c.if-not-are_same_cuts.false c.are_same_cuts.ensures c.are_same_fronts.ensures
