use Rattle.std.proofs.Common.{◌<◌, length, refl, sym, subst, None}
use Rattle.std.proofs.lemmas.Bool.{both_ways}
use Rattle.fw_frontier.specs.Frontier.{Within}
use Rattle.fw_frontier.specs.Front.{frontier_of, IsFrontOf}
use Rattle.fw_flow.specs.Dataflow.{bounds_of}
use Rattle.fw_model.specs.Choice.{IsCanonicalCut}
use Rattle.fw_model.specs.Inclusions.{left_of, owner, right_of, side_bounds}
use Rattle.fw_model.specs.Lowerings.{choice_of}
use Rattle.fw_model.specs.Offers.{covers_of}
use Rattle.fw_model.proofs.InclusionLaws.{owner-there}
use Rattle.fw_offers.proofs.RightLaws.{cut_here}
use Rattle.fw_monitor.specs.Descent.{IsLower, IsLowerCut}
use Rattle.fw_monitor.proofs.DescentLaws.{of_flow}
use Rattle.fw_monitor.proofs.FindingLaws.{cut_holds, cut_mended, none_lower, none_offered}
use Rattle.fw_monitor.proofs.finding.mend_cut.Goals as goal

pub passes-requires-clause-cut : goal.passes-requires-clause-cut
passes-requires-clause-cut c =
    let flow = c.args.flow.now in
    let choice = choice_of c.args.way.now.cuts.items c.args.way.now.notices.items in
    cut_here flow choice (owner flow c.args.side.now) c.owner-node.result c.cut_at-cut.result.now (of_flow flow c.args.offers.now choice c.requires.offered.encloses)
    (owner-there flow c.args.side.now c.flow_is_well_formed.ensures c.requires.there) (c.cut_at-cut.ensures choice (sym c.deref-3.ensures.value)) c.owner-node.ensures

pub returns-then-branch : goal.returns-then-branch
returns-then-branch c =
    let flow = c.args.flow.now in
    let covers = covers_of flow c.args.offers.now in
    let side = c.args.side.now in
    let cuts = c.args.way.now.cuts.items in
    let notices = c.args.way.now.notices.items in
    let names = subst (λ xs. IsFrontOf (side_bounds flow side) c.in_ok-bound.bound (right_of flow covers side (choice_of xs notices))) c.deref.ensures.value
    (subst (λ ys. IsFrontOf (side_bounds flow side) c.in_ok-bound.bound (right_of flow covers side (choice_of c.deref.result.now ys))) c.deref-2.ensures.value c.in_ok-bound.ensures) in
    let passes = subst (λ x. Within (left_of covers side x) (frontier_of (side_bounds flow side) c.in_ok-bound.bound)) (c.cut_at-cut.ensures (choice_of cuts notices) (sym c.deref-3.ensures.value)) (c.in_ok-passes.ensures.0 c.if-branch.true) in
    (refl, refl, cut_holds flow c.args.offers.now side (choice_of cuts notices) c.in_ok-bound.bound c.owner-node.result names c.owner-node.ensures passes)

pub lowered_failing-requires-clause-cut : goal.lowered_failing-requires-clause-cut
lowered_failing-requires-clause-cut c =
    let flow = c.args.flow.now in
    let choice = choice_of c.args.way.now.cuts.items c.args.way.now.notices.items in
    cut_here flow choice (owner flow c.args.side.now) c.owner-node.result c.cut_at-cut.result.now (of_flow flow c.args.offers.now choice c.requires.offered.encloses)
    (owner-there flow c.args.side.now c.flow_is_well_formed.ensures c.requires.there) (c.cut_at-cut.ensures choice (sym c.deref-3.ensures.value)) c.owner-node.ensures

pub returns-in_default : goal.returns-in_default
returns-in_default c =
    let flow = c.args.flow.now in
    let offers = c.args.offers.now in
    let covers = covers_of flow offers in
    let side = c.args.side.now in
    let cuts = c.args.way.now.cuts.items in
    let notices = c.args.way.now.notices.items in
    let here = c.cut_at-cut.ensures (choice_of cuts notices) (sym c.deref-3.ensures.value) in
    let names = subst (λ xs. IsFrontOf (side_bounds flow side) c.in_ok-bound.bound (right_of flow covers side (choice_of xs notices))) c.deref.ensures.value
    (subst (λ ys. IsFrontOf (side_bounds flow side) c.in_ok-bound.bound (right_of flow covers side (choice_of c.deref.result.now ys))) c.deref-2.ensures.value c.in_ok-bound.ensures) in
    let none = subst (λ x. IsLowerCut flow offers side x c.in_ok-bound.bound None) here (subst (IsLowerCut flow offers side c.cut_at-cut.result.now c.in_ok-bound.bound) c.in_default.is c.in_ok-to.ensures) in (
      refl,
      refl,
      none_lower flow offers side cuts notices c.in_ok-bound.bound c.owner-node.result c.requires.ascend c.requires.there names c.owner-node.ensures
          (λ w. both_ways c.in_ok-passes.field-0 c.if-branch.false (c.in_ok-passes.ensures.1 (subst (λ x. Within (left_of covers side x) (frontier_of (side_bounds flow side) c.in_ok-bound.bound)) (sym here) w))) none,
    )

pub returns-then-not-is_offered : goal.returns-then-not-is_offered
returns-then-not-is_offered c =
    let flow = c.args.flow.now in
    let offers = c.args.offers.now in
    let covers = covers_of flow offers in
    let side = c.args.side.now in
    let cuts = c.args.way.now.cuts.items in
    let notices = c.args.way.now.notices.items in
    let here = c.cut_at-cut.ensures (choice_of cuts notices) (sym c.deref-3.ensures.value) in
    let names = subst (λ xs. IsFrontOf (side_bounds flow side) c.in_ok-bound.bound (right_of flow covers side (choice_of xs notices))) c.deref.ensures.value
    (subst (λ ys. IsFrontOf (side_bounds flow side) c.in_ok-bound.bound (right_of flow covers side (choice_of c.deref.result.now ys))) c.deref-2.ensures.value c.in_ok-bound.ensures) in
    let low = subst (IsLowerCut flow offers side c.cut_at-cut.result.now c.in_ok-bound.bound) c.in-Some.is c.in_ok-to.ensures in
    let lower = subst (λ x. IsLower flow offers side x c.in_ok-bound.bound c.in-Some.to) here low in
    let there = subst (λ p. IsCanonicalCut (bounds_of flow p) c.in-Some.to) (sym c.owner-node.ensures) lower.canonical in
    let test = c.is_offered.ensures flow c.requires.offers (subst (λ p. p < length flow.nodes) (sym c.owner-node.ensures) (owner-there flow side c.flow_is_well_formed.ensures c.requires.there)) there in (
      refl,
      refl,
      none_offered flow offers side cuts notices c.in_ok-bound.bound c.owner-node.result c.in-Some.to c.flow_is_well_formed.ensures c.requires.ascend c.requires.there c.requires.offered names c.owner-node.ensures
          (λ o. both_ways c.is_offered.result c.if-not-is_offered.true (test.1 o)) lower,
    )

pub returns : goal.returns
returns c =
    let flow = c.args.flow.now in
    let offers = c.args.offers.now in
    let covers = covers_of flow offers in
    let side = c.args.side.now in
    let cuts = c.args.way.now.cuts.items in
    let notices = c.args.way.now.notices.items in
    let here = c.cut_at-cut.ensures (choice_of cuts notices) (sym c.deref-3.ensures.value) in
    let names = subst (λ xs. IsFrontOf (side_bounds flow side) c.in_ok-bound.bound (right_of flow covers side (choice_of xs notices))) c.deref.ensures.value
    (subst (λ ys. IsFrontOf (side_bounds flow side) c.in_ok-bound.bound (right_of flow covers side (choice_of c.deref.result.now ys))) c.deref-2.ensures.value c.in_ok-bound.ensures) in
    let low = subst (IsLowerCut flow offers side c.cut_at-cut.result.now c.in_ok-bound.bound) c.in-Some.is c.in_ok-to.ensures in
    let lower = subst (λ x. IsLower flow offers side x c.in_ok-bound.bound c.in-Some.to) here low in
    let there = subst (λ p. IsCanonicalCut (bounds_of flow p) c.in-Some.to) (sym c.owner-node.ensures) lower.canonical in
    let test = c.is_offered.ensures flow c.requires.offers (subst (λ p. p < length flow.nodes) (sym c.owner-node.ensures) (owner-there flow side c.flow_is_well_formed.ensures c.requires.there)) there in
    cut_mended flow offers side c.args.way.now.trail.items c.push.new.self.items cuts _ notices c.in_ok-bound.bound c.owner-node.result c.place.result c.in-Some.to c.in_ok-value.value c.lowering_of.result
    c.flow_is_well_formed.ensures c.requires.ascend c.requires.there c.requires.offered names c.owner-node.ensures c.place.ensures c.in_ok-value.ensures refl c.lowering_of.ensures c.in_ok-push.ensures.items
    (test.0 c.if-not-is_offered.false) lower
