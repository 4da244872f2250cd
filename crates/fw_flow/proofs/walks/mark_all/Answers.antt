use Rattle.std.proofs.Common.{get_or, arith}
use Rattle.std.proofs.lemmas.List.Elements.{Contains-get_or}
use Rattle.fw_flow.proofs.Marks.{AreMarked-more}
use Rattle.fw_flow.proofs.walks.mark_all.Goals as goal

pub mark-requires : goal.mark-requires
mark-requires c =
    let places = c.args.places.now in
    let i = c.loop-place.place-index in
    omega (arith, c.requires (get_or places i 0) (Contains-get_or places i 0 c.loop-place-test.true), c.loop-place.invariant.len)

pub loop-place-preserved : goal.loop-place-preserved
loop-place-preserved c =
    AreMarked-more c.args.places.now c.loop-place.place-index _ _ _ _ _ _ c.loop-place-test.true c.loop-place.invariant c.in_ok-mark.ensures
