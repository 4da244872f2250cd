use Rattle.std.proofs.lemmas.Cmp.{nat_list_cmp_total}
use Rattle.std.proofs.lemmas.List.Filters.{dedup_is}
use Rattle.std.proofs.lemmas.List.Kept.{IsStrictlySortedBy-dedup}
use Rattle.std.specs.Cmp.Lexicographic.{texts_ties}
use Rattle.fw_frontier.specs.declared.planes.Plane.{Plane}
use Rattle.fw_frontier.specs.declared.planes.TheConstants.{PLANES}
use Rattle.fw_frontier.specs.Planes.{planes_lubs}
use Rattle.fw_frontier.proofs.PlaneSteps.{planes_bounds-more, planes_bounds-whole, same-in_order}
use Rattle.fw_frontier.proofs.planes.least_bounds.Goals as goal

pub loop-plane-preserved : goal.loop-plane-preserved
loop-plane-preserved c =
    let d : Plane = record { x = 0; y = 0; z = 0; w = 0 } in
    planes_bounds-more PLANES c.loop-plane.plane-index d c.args.mine.now c.args.others.now c.loop-plane.found.items c.push_plane.new.found.items (planes_lubs PLANES c.args.mine.now c.args.others.now)
    c.loop-plane-test.true (c.in_ok-push_plane.ensures) c.loop-plane.invariant

pub returns-clause-ascending : goal.returns-clause-ascending
returns-clause-ascending c =
    let is = dedup_is _ _ _ c.dedup.ensures.filtered in
    rw is (IsStrictlySortedBy-dedup nat_list_cmp_total texts_ties _ c.sort_unstable.ensures.sorted)

pub returns-clause-same : goal.returns-clause-same
returns-clause-same c =
    let mine = c.args.mine.now in
    let others = c.args.others.now in
    let found = c.loop-plane.found.items in
    same-in_order (planes_lubs PLANES mine others) found c.sort_unstable.new.self.items c.dedup.new.self.items
    (planes_bounds-whole PLANES c.loop-plane.plane-index mine others found (planes_lubs PLANES mine others) c.loop-plane-test.false c.loop-plane.invariant)
    c.sort_unstable.ensures.permutation (dedup_is _ _ _ c.dedup.ensures.filtered)
