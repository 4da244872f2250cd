use Rattle.std.proofs.Common.{None, Some, refl, sym, subst}
use Rattle.fw_frontier.specs.Front.{IsFrontOf}
use Rattle.fw_model.specs.Inclusions.{owner, side_bounds, right_of}
use Rattle.fw_model.specs.Lowerings.{choice_of}
use Rattle.fw_monitor.specs.Descent.{IsLowerCut}
use Rattle.fw_model.proofs.InclusionLaws.{owner-there}
use Rattle.fw_offers.proofs.RightLaws.{cut_here}
use Rattle.fw_monitor.proofs.DescentLaws.{of_flow}
use Rattle.fw_monitor.proofs.LoweringLaws.{cut_stays, cut_tested}
use Rattle.fw_monitor.proofs.descent.lower_cut.Goals as goal
use Rattle.fw_model.specs.Offers.{covers_of}

pub lowered-requires-clause-cut : goal.lowered-requires-clause-cut
lowered-requires-clause-cut c =
    let flow = c.args.flow.now in
    let choice = choice_of c.args.cuts.now.items c.args.notices.now in
    cut_here flow choice (owner flow c.args.side.now) c.owner-node.result c.cut_at.result.now (of_flow flow c.args.offers.now choice c.requires.encloses)
    (owner-there flow c.args.side.now c.flow_is_well_formed.ensures c.requires.there) (c.cut_at.ensures choice (sym c.deref-2.ensures.value)) c.owner-node.ensures

pub returns-in-None : goal.returns-in-None
returns-in-None c =
    let flow = c.args.flow.now in
    let offers = c.args.offers.now in
    let side = c.args.side.now in
    let notices = c.args.notices.now in
    let cuts = c.args.cuts.now.items in
    let choice = choice_of cuts notices in
    let names = subst (λ xs. IsFrontOf (side_bounds flow side) c.in_ok-bound.bound (right_of flow (covers_of flow offers) side (choice_of xs notices))) c.deref.ensures.value c.in_ok-bound.ensures in
    let low = subst (IsLowerCut flow offers side c.cut_at.result.now c.in_ok-bound.bound) c.in-None.is c.in_ok-lower.ensures in
    let none = subst (λ x. IsLowerCut flow offers side x c.in_ok-bound.bound None) (c.cut_at.ensures choice (sym c.deref-2.ensures.value)) low in
    cut_stays flow offers side cuts notices c.in_ok-bound.bound c.owner-node.result c.flow_is_well_formed.ensures c.requires.there c.requires.encloses names c.owner-node.ensures none

pub returns : goal.returns
returns c =
    let flow = c.args.flow.now in
    let offers = c.args.offers.now in
    let side = c.args.side.now in
    let notices = c.args.notices.now in
    let cuts = c.args.cuts.now.items in
    let choice = choice_of cuts notices in
    let names = subst (λ xs. IsFrontOf (side_bounds flow side) c.in_ok-bound.bound (right_of flow (covers_of flow offers) side (choice_of xs notices))) c.deref.ensures.value c.in_ok-bound.ensures in
    let low = subst (IsLowerCut flow offers side c.cut_at.result.now c.in_ok-bound.bound) c.in-Some.is c.in_ok-lower.ensures in
    let some = subst (λ x. IsLowerCut flow offers side x c.in_ok-bound.bound (Some c.in-Some.cut)) (c.cut_at.ensures choice (sym c.deref-2.ensures.value)) low in
    cut_tested flow offers side cuts _ notices c.in_ok-bound.bound c.owner-node.result c.place.result c.in-Some.cut c.in_ok-value-in-Some.value c.flow_is_well_formed.ensures c.requires.there c.requires.encloses names
    c.owner-node.ensures c.place.ensures c.in_ok-value-in-Some.ensures refl some
