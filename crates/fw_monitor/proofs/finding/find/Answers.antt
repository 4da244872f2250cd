use Rattle.std.proofs.Common.{◌<◌, ◌≤◌, ℕ, [], length, ap, sym, subst, arith}
use Rattle.fw_frontier.specs.Front.{IsFrontOf}
use Rattle.fw_flow.specs.Dataflow.{bounds_of}
use Rattle.fw_model.specs.Choice.{cut_of}
use Rattle.fw_model.specs.Covers.{set_of}
use Rattle.fw_model.specs.Inclusions.{inclusions}
use Rattle.fw_model.specs.Lowerings.{choice_of}
use Rattle.fw_model.specs.Machine.{front_of}
use Rattle.fw_model.specs.Offers.{IsOffered, covers_of}
use Rattle.fw_monitor.specs.Finding.{IsFirstDeadEnd, IsLargestFound, IsMended}
use Rattle.fw_monitor.proofs.FindingLaws.{again, again_falls, begun, found_largest, found_none, further, further_falls}
use Rattle.fw_monitor.proofs.TestLaws.{there_at}
use Rattle.fw_monitor.proofs.finding.find.Goals as goal

pub mend-init : goal.mend-init
mend-init c =
    let flow = c.args.flow.now in
    let cuts = c.in_ok-cuts.cuts.items in
    let notices = c.in_ok-notices.notices.items in
    let kept = subst (λ xs. (p : ℕ) → p < length flow.nodes → IsFrontOf (bounds_of flow p) (front_of notices p) (set_of flow p (cut_of (choice_of xs []) p))) c.deref.ensures.value c.in_ok-notices.ensures.kept in
    begun flow c.args.offers.now c.new.result.items cuts notices c.requires.ascend c.in_ok-cuts.ensures.one_each c.in_ok-notices.ensures.one_each c.requires.some c.in_ok-cuts.ensures.greatest kept c.new.ensures.items

pub mend-requires-clause-there : goal.mend-requires-clause-there
mend-requires-clause-there c =
    let t = c.mend-test.true in
    let l : c.mend.place < length c.in_ok-inclusions.inclusions.all.items = omega arith in
    there_at c.args.flow.now c.in_ok-inclusions.inclusions.all.items c.mend.place c.index-inclusion.result.now c.in_ok-inclusions.ensures.all l c.index-inclusion.ensures

pub mend-smaller-in-Holds : goal.mend-smaller-in-Holds
mend-smaller-in-Holds c =
    let t = c.mend-test.true in
    let l : c.mend.place < length c.in_ok-inclusions.inclusions.all.items = omega arith in
    let old = choice_of c.mend.way.cuts.items c.mend.way.notices.items in
    let new = choice_of c.mend-in-mend.new.way.cuts.items c.mend-in-mend.new.way.notices.items in
    let h = subst (IsMended c.args.flow.now c.args.offers.now c.index-inclusion.result.now c.mend.way.trail.items c.mend-in-mend.new.way.trail.items old new) c.in-Holds.is c.in_ok-mend.ensures in
    further_falls c.args.flow.now c.in_ok-inclusions.inclusions.all.items old new c.mend.place c.in_ok-inclusions.ensures.all l h.1

pub mend-preserved-in-Holds : goal.mend-preserved-in-Holds
mend-preserved-in-Holds c =
    let t = c.mend-test.true in
    let l : c.mend.place < length c.in_ok-inclusions.inclusions.all.items = omega arith in
    let old = choice_of c.mend.way.cuts.items c.mend.way.notices.items in
    let new = choice_of c.mend-in-mend.new.way.cuts.items c.mend-in-mend.new.way.notices.items in
    let h = subst (IsMended c.args.flow.now c.args.offers.now c.index-inclusion.result.now c.mend.way.trail.items c.mend-in-mend.new.way.trail.items old new) c.in-Holds.is c.in_ok-mend.ensures in
    further c.args.flow.now c.args.offers.now c.in_ok-inclusions.inclusions.all.items c.index-inclusion.result.now c.mend.way.trail.items c.mend-in-mend.new.way.trail.items old new c.mend.place
    c.in_ok-inclusions.ensures.all l c.index-inclusion.ensures h.0 h.1 h.2 c.mend.invariant

pub begin_again-requires-clause-there : goal.begin_again-requires-clause-there
begin_again-requires-clause-there c =
    let t = c.mend-test.true in
    let l : c.mend.place < length c.in_ok-inclusions.inclusions.all.items = omega arith in
    there_at c.args.flow.now c.in_ok-inclusions.inclusions.all.items c.mend.place c.index-inclusion.result.now c.in_ok-inclusions.ensures.all l c.index-inclusion.ensures

pub mend-smaller : goal.mend-smaller
mend-smaller c =
    let old = choice_of c.mend.way.cuts.items c.mend.way.notices.items in
    let new = choice_of c.mend-in-mend.new.way.cuts.items c.mend-in-mend.new.way.notices.items in
    let low = subst (IsMended c.args.flow.now c.args.offers.now c.index-inclusion.result.now c.mend.way.trail.items c.mend-in-mend.new.way.trail.items old new) c.in-Lowered.is c.in_ok-mend.ensures in
    again_falls c.args.flow.now old new c.mend.place _ low.lowering.fewer

pub mend-preserved : goal.mend-preserved
mend-preserved c =
    let t = c.mend-test.true in
    let l : c.mend.place < length c.in_ok-inclusions.inclusions.all.items = omega arith in
    let old = choice_of c.mend.way.cuts.items c.mend.way.notices.items in
    let new = choice_of c.mend-in-mend.new.way.cuts.items c.mend-in-mend.new.way.notices.items in
    let low = subst (IsMended c.args.flow.now c.args.offers.now c.index-inclusion.result.now c.mend.way.trail.items c.mend-in-mend.new.way.trail.items old new) c.in-Lowered.is c.in_ok-mend.ensures in
    again c.args.flow.now c.args.offers.now c.in_ok-inclusions.inclusions.all.items c.index-inclusion.result.now c.mend.way.trail.items c.mend-in-mend.new.way.trail.items old new c.mend.place _ c.flow_is_well_formed.ensures
    c.in_ok-inclusions.ensures.all l c.index-inclusion.ensures
    (there_at c.args.flow.now c.in_ok-inclusions.inclusions.all.items c.mend.place c.index-inclusion.result.now c.in_ok-inclusions.ensures.all l c.index-inclusion.ensures) c.in_ok-place-in-Lowered.ensures low c.mend.invariant

pub returns-in-NoneLeft : goal.returns-in-NoneLeft
returns-in-NoneLeft c =
    let t = c.mend-test.true in
    let l : c.mend.place < length c.in_ok-inclusions.inclusions.all.items = omega arith in
    let flow = c.args.flow.now in
    let offers = c.args.offers.now in
    let old = choice_of c.mend.way.cuts.items c.mend.way.notices.items in
    let new = choice_of c.mend-in-mend.new.way.cuts.items c.mend-in-mend.new.way.notices.items in
    let none = subst (IsMended flow offers c.index-inclusion.result.now c.mend.way.trail.items c.mend-in-mend.new.way.trail.items old new) c.in-NoneLeft.is c.in_ok-mend.ensures in
    subst (λ ls. IsFirstDeadEnd flow (covers_of flow offers) (IsOffered flow offers) ls c.in-NoneLeft.side) (sym c.of.ensures)
    (subst (λ ls. IsFirstDeadEnd flow (covers_of flow offers) (IsOffered flow offers) ls c.in-NoneLeft.side) (sym none.0)
    (found_none flow offers c.in_ok-inclusions.inclusions.all.items c.index-inclusion.result.now c.mend.way.trail.items old c.mend.place c.in-NoneLeft.side c.flow_is_well_formed.ensures
    c.in_ok-inclusions.ensures.all l c.index-inclusion.ensures none.1 c.mend.invariant none.2))

pub returns : goal.returns
returns c =
    let flow = c.args.flow.now in
    let offers = c.args.offers.now in
    let cuts = c.mend.way.cuts.items in
    let notices = c.mend.way.notices.items in
    let same = ap length c.in_ok-inclusions.ensures.all in
    let past : length (inclusions flow) ≤ c.mend.place = let f = c.mend-test.false in omega arith in
    let whole = found_largest flow offers c.mend.way.trail.items (choice_of cuts notices) c.mend.place c.flow_is_well_formed.ensures c.requires.ascend past c.mend.invariant in
    subst (λ ls. IsLargestFound flow offers ls (choice_of c.of-2.result c.of-3.result)) (sym c.of-4.ensures)
    (subst (λ xs. IsLargestFound flow offers c.mend.way.trail.items (choice_of xs c.of-3.result)) (sym c.of-2.ensures)
    (subst (λ ys. IsLargestFound flow offers c.mend.way.trail.items (choice_of cuts ys)) (sym c.of-3.ensures) whole))
