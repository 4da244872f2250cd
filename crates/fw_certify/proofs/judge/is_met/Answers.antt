use Rattle.std.proofs.Common.{sym, ap, ◌∙◌}
use Rattle.std.proofs.lemmas.Result.{IfOk-weaker}
use Rattle.fw_frontier.specs.Front.{IsFrontOf}
use Rattle.fw_model.specs.Choice.{cut_of}
use Rattle.fw_model.specs.Inclusions.{owner, right_of, side_bounds}
use Rattle.fw_model.specs.Lowerings.{choice_of}
use Rattle.fw_model.specs.Offers.{covers_of}
use Rattle.fw_model.proofs.InclusionLaws.{owner-there}
use Rattle.fw_offers.proofs.RightLaws.{cut_here}
use Rattle.fw_certify.proofs.CodeLaws.{met-is, of_values}
use Rattle.fw_certify.proofs.judge.is_met.Goals as goal

pub passes-requires-clause-cut : goal.passes-requires-clause-cut
passes-requires-clause-cut c =
    let flow = c.args.flow.now in
    let offers = c.args.offers.now in
    let cuts = c.args.values.now.cuts.items in
    let notices = c.args.values.now.notices.items in
    let choice = choice_of cuts notices in
    let side = c.args.side.now in
    cut_here flow choice (owner flow side) c.owner.result c.cut_at-cut.result.now c.requires.of_flow (owner-there flow side c.flow_is_well_formed.ensures c.requires.there) (c.cut_at-cut.ensures choice (sym c.deref-3.ensures.value)) c.owner.ensures

pub passes-requires-clause-bound : goal.passes-requires-clause-bound
passes-requires-clause-bound c =
    let flow = c.args.flow.now in
    let offers = c.args.offers.now in
    let cuts = c.args.values.now.cuts.items in
    let notices = c.args.values.now.notices.items in
    let choice = choice_of cuts notices in
    c.in_ok-bound.ensures.canonical

pub returns : goal.returns
returns c =
    let flow = c.args.flow.now in
    let offers = c.args.offers.now in
    let cuts = c.args.values.now.cuts.items in
    let notices = c.args.values.now.notices.items in
    let choice = choice_of cuts notices in
    let side = c.args.side.now in
    let named = of_values (λ h. IsFrontOf (side_bounds flow side) c.in_ok-bound.bound (right_of flow (covers_of flow offers) side h)) cuts c.deref.result.now notices c.deref-2.result.now c.deref.ensures.value c.deref-2.ensures.value c.in_ok-bound.ensures in
    IfOk-weaker c.passes.result _ _
    (λ b. met-is flow offers side choice c.in_ok-bound.bound c.cut_at-cut.result.now b named (c.cut_at-cut.ensures choice (sym c.deref-3.ensures.value) ∙ ap (cut_of choice) c.owner.ensures))
    c.passes.ensures
