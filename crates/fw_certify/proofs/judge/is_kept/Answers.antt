use Rattle.std.proofs.Common.{ap, ◌∙◌}
use Rattle.fw_frontier.specs.Front.{IsFrontOf}
use Rattle.fw_flow.specs.Dataflow.{bounds_of}
use Rattle.fw_model.specs.Inclusions.{limit_of, note_node}
use Rattle.fw_model.specs.Lowerings.{choice_of}
use Rattle.fw_model.specs.Machine.{front_of}
use Rattle.fw_model.specs.Offers.{covers_of}
use Rattle.fw_certify.proofs.CodeLaws.{kept-is, of_values}
use Rattle.fw_certify.proofs.judge.is_kept.Goals as goal

pub returns : goal.returns
returns c =
    let flow = c.args.flow.now in
    let offers = c.args.offers.now in
    let cuts = c.args.values.now.cuts.items in
    let notices = c.args.values.now.notices.items in
    let choice = choice_of cuts notices in
    let limit = c.args.limit.now in
    let named = of_values (λ h. IsFrontOf (bounds_of flow (note_node flow limit)) c.in_ok-bound.bound (limit_of flow (covers_of flow offers) limit h)) cuts c.deref.result.now notices c.deref-2.result.now c.deref.ensures.value c.deref-2.ensures.value c.in_ok-bound.ensures in
    kept-is flow offers limit choice c.in_ok-bound.bound c.notice_at-notice.result.now c.subset.result named
    (c.notice_at-notice.ensures ∙ ap (λ xs. front_of xs c.note_node.result) c.deref-3.ensures.value ∙ ap (front_of notices) c.note_node.ensures) c.subset.ensures.domain
