use Rattle.std.proofs.Common.{subst}
use Rattle.fw_frontier.specs.Front.{IsFrontOf}
use Rattle.fw_flow.specs.Dataflow.{bounds_of}
use Rattle.fw_model.specs.Inclusions.{limit_of, note_node}
use Rattle.fw_model.specs.Lowerings.{choice_of}
use Rattle.fw_model.specs.Offers.{covers_of}
use Rattle.fw_monitor.specs.Descent.{IsNoticeLowered}
use Rattle.fw_monitor.proofs.FindingLaws.{note_mended}
use Rattle.fw_monitor.proofs.finding.mend_note.Goals as goal

pub returns : goal.returns
returns c =
    let flow = c.args.flow.now in
    let offers = c.args.offers.now in
    let limit = c.args.limit.now in
    let cuts = c.args.way.now.cuts.items in
    let notices = c.args.way.now.notices.items in
    let names = subst (λ xs. IsFrontOf (bounds_of flow (note_node flow limit)) c.in_ok-bound.bound (limit_of flow (covers_of flow offers) limit (choice_of xs notices))) c.deref.ensures.value
    (subst (λ ys. IsFrontOf (bounds_of flow (note_node flow limit)) c.in_ok-bound.bound (limit_of flow (covers_of flow offers) limit (choice_of c.deref.result.now ys))) c.deref-2.ensures.value c.in_ok-bound.ensures) in
    note_mended flow offers limit c.args.way.now.trail.items c.push.new.self.items cuts notices c.lower_notice.new.notices.items c.note_node.result c.in_ok-bound.bound c.in-Some.to c.lowering_of.result
    c.flow_is_well_formed.ensures c.requires.there c.requires.offered names c.note_node.ensures c.lowering_of.ensures c.in_ok-push-in-Some.ensures.items
    (subst (IsNoticeLowered notices c.lower_notice.new.notices.items c.note_node.result c.in_ok-bound.bound) c.in-Some.is c.in_ok-lower_notice.ensures)
