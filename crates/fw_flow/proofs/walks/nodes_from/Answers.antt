use Rattle.std.proofs.Common.{◌≡◌, ◌<◌, length, arith, rules}
use Rattle.fw_flow.proofs.Marks.{IsVisited-first, IsVisited-more, visited_within, AreMarked-from_row, row_within, IsReachOf-from_visited}
use Rattle.fw_flow.proofs.walks.nodes_from.Goals as goal

pub loop-place-init : goal.loop-place-init
loop-place-init c =
    IsVisited-first c.args.onward.now c.args.node c.in_ok-marks.marks.items _ _ _ (c.in_ok-marks.ensures.items_if_clones_equal (λ y e. e)) c.new-to_visit.ensures.items
    c.in_ok-mark.ensures

pub bounds-onward-place : goal.bounds-onward-place
bounds-onward-place c =
    visited_within c.args.onward.now c.args.node c.in-Some.place c.loop-place.marks.items c.loop-place.to_visit.items c.pop.new.self.items c.in-Some.ensures.items c.loop-place.invariant

pub offset_bounds-onward-place : goal.offset_bounds-onward-place
offset_bounds-onward-place c =
    let lt : c.in-Some.place < length c.args.onward.now =
    visited_within c.args.onward.now c.args.node c.in-Some.place c.loop-place.marks.items c.loop-place.to_visit.items c.pop.new.self.items c.in-Some.ensures.items c.loop-place.invariant in
    search rules

pub mark_all-requires : goal.mark_all-requires
mark_all-requires c =
    row_within c.args.onward.now c.args.node c.in-Some.place c.index-onward-place.result c.deref.result.now c.loop-place.marks.items c.loop-place.to_visit.items c.requires.within c.loop-place.invariant
    (visited_within c.args.onward.now c.args.node c.in-Some.place c.loop-place.marks.items c.loop-place.to_visit.items c.pop.new.self.items c.in-Some.ensures.items c.loop-place.invariant)
    c.index-onward-place.is c.deref.ensures.value

pub loop-place-preserved : goal.loop-place-preserved
loop-place-preserved c =
    let lt : c.in-Some.place < length c.args.onward.now =
    visited_within c.args.onward.now c.args.node c.in-Some.place c.loop-place.marks.items c.loop-place.to_visit.items c.pop.new.self.items c.in-Some.ensures.items c.loop-place.invariant in
    IsVisited-more c.args.onward.now c.args.node c.in-Some.place c.loop-place.marks.items c.mark_all.new.marks.items c.loop-place.to_visit.items c.pop.new.self.items c.mark_all.new.to_visit.items
    c.in-Some.ensures.items c.loop-place.invariant
    (AreMarked-from_row c.args.onward.now c.in-Some.place c.index-onward-place.result c.deref.result.now _ _ _ _ lt c.index-onward-place.is c.deref.ensures.value c.in_ok-mark_all.ensures)

pub returns-clause-reach : goal.returns-clause-reach
returns-clause-reach c = λ links lists.
    let none : length c.loop-place.to_visit.items ≡ 0 = omega (arith, c.in_default.ensures.cases) in
    IsReachOf-from_visited links c.args.onward.now c.args.node c.loop-place.marks.items c.loop-place.to_visit.items none lists c.loop-place.invariant
