use Rattle.std.proofs.Common.{refl, sym, ap, ◌∙◌}
use Rattle.fw_frontier.specs.Front.{IsFrontOf}
use Rattle.fw_model.specs.Choice.{cut_of}
use Rattle.fw_model.specs.Inclusions.{owner, right_of, side_bounds}
use Rattle.fw_model.specs.Lowerings.{choice_of}
use Rattle.fw_model.specs.Offers.{covers_of}
use Rattle.fw_model.proofs.InclusionLaws.{owner-there}
use Rattle.fw_offers.proofs.RightLaws.{cut_here}
use Rattle.fw_certify.proofs.CodeLaws.{cut-refused, cut-taken, fails-here, of_values}
use Rattle.fw_certify.proofs.judge.take_cut.Goals as goal

pub is_greatest-requires-clause-left : goal.is_greatest-requires-clause-left
is_greatest-requires-clause-left g c =
    let flow = c.args.flow.now in
    let offers = c.args.offers.now in
    let cuts = c.args.values.now.cuts.items in
    let notices = c.args.values.now.notices.items in
    let choice = choice_of cuts notices in
    let side = c.args.side in
    record {
      offers_fit = c.requires.offers;
      there = c.requires.there;
      canonical = cut_here flow choice (owner flow side) c.owner-node.result c.cut_at.result.now c.requires.of_flow (owner-there flow side c.flow_is_well_formed.ensures c.requires.there) (c.cut_at.ensures choice (sym c.deref-3.ensures.value)) c.owner-node.ensures;
      bound_fits = c.in_ok-bound.ensures.canonical;
    }

pub is_greatest-requires-clause-fails : goal.is_greatest-requires-clause-fails
is_greatest-requires-clause-fails g c =
    let flow = c.args.flow.now in
    let offers = c.args.offers.now in
    let cuts = c.args.values.now.cuts.items in
    let notices = c.args.values.now.notices.items in
    let choice = choice_of cuts notices in
    let side = c.args.side in
    let named = of_values (λ h. IsFrontOf (side_bounds flow side) c.in_ok-bound.bound (right_of flow (covers_of flow offers) side h)) cuts c.deref.result.now notices c.deref-2.result.now c.deref.ensures.value c.deref-2.ensures.value c.in_ok-bound.ensures in
    fails-here flow offers side choice c.in_ok-bound.bound c.cut_at.result.now named (c.cut_at.ensures choice (sym c.deref-3.ensures.value) ∙ ap (cut_of choice) c.owner-node.ensures) c.requires.fails

pub returns-then-not-branch-clause-judged : goal.returns-then-not-branch-clause-judged
returns-then-not-branch-clause-judged g c =
    let flow = c.args.flow.now in
    let offers = c.args.offers.now in
    let cuts = c.args.values.now.cuts.items in
    let notices = c.args.values.now.notices.items in
    let choice = choice_of cuts notices in
    let side = c.args.side in
    let named = of_values (λ h. IsFrontOf (side_bounds flow side) c.in_ok-bound.bound (right_of flow (covers_of flow offers) side h)) cuts c.deref.result.now notices c.deref-2.result.now c.deref.ensures.value c.deref-2.ensures.value c.in_ok-bound.ensures in
    cut-refused flow offers side choice c.in_ok-bound.bound c.cut_at.result.now c.args.to.now c.in_ok-is_greatest.field-0 named (c.cut_at.ensures choice (sym c.deref-3.ensures.value) ∙ ap (cut_of choice) c.owner-node.ensures)
    c.if-not-branch.true c.in_ok-is_greatest.ensures.greatest

pub returns-clause-judged : goal.returns-clause-judged
returns-clause-judged g c =
    let flow = c.args.flow.now in
    let offers = c.args.offers.now in
    let cuts = c.args.values.now.cuts.items in
    let notices = c.args.values.now.notices.items in
    let choice = choice_of cuts notices in
    let side = c.args.side in
    let named = of_values (λ h. IsFrontOf (side_bounds flow side) c.in_ok-bound.bound (right_of flow (covers_of flow offers) side h)) cuts c.deref.result.now notices c.deref-2.result.now c.deref.ensures.value c.deref-2.ensures.value c.in_ok-bound.ensures in
    cut-taken flow offers side cuts _ notices c.in_ok-bound.bound c.owner-node.result c.place.result c.cut_at.result.now c.args.to.now c.in_ok-cut.cut c.in_ok-is_greatest.field-0 named
    (c.cut_at.ensures choice (sym c.deref-3.ensures.value) ∙ ap (cut_of choice) c.owner-node.ensures) c.if-not-branch.false c.in_ok-is_greatest.ensures.greatest c.owner-node.ensures c.place.ensures c.in_ok-cut.ensures refl
