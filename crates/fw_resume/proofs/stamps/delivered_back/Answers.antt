use Rattle.std.proofs.Common.{◌∙◌, [], ◌++◌, List, map, ap, sym, subst}
use Rattle.std.proofs.lemmas.List.{take_all}
use Rattle.fw_time.specs.Stamp.{Stamp}
use Rattle.fw_flow.specs.declared.choice.OfEdge.{OfEdge}
use Rattle.fw_progress.specs.StampData.{message_at}
use Rattle.fw_resume.specs.Stamps.{AreDeliveredBack, AreGreatestOn, AreOnEdges}
use Rattle.fw_resume.proofs.StampLaws.{on_edges-none, on_edges-more, in_edge-new, more_delivered}
use Rattle.fw_resume.proofs.stamps.delivered_back.Goals as goal

pub loop-edge-init : goal.loop-edge-init
loop-edge-init c = subst (AreOnEdges (AreDeliveredBack c.args.flow.now c.args.recorded.now) []) (sym c.new-messages.ensures.items) (on_edges-none (AreDeliveredBack c.args.flow.now c.args.recorded.now))

pub loop-edge-preserved : goal.loop-edge-preserved
loop-edge-preserved c =
    let flow = c.args.flow.now in
    let r = c.args.recorded.now in
    let e = c.edge-item.result in
    let tops = c.in_ok-tops.tops.items in
    on_edges-more (AreDeliveredBack flow r) c.in_edges-edge-items.result.now c.loop-edge.edge-index e c.loop-edge.messages.items c.add_delivered.new.messages.items
    c.loop-edge-test.true c.edge-item.is
    (in_edge-new flow c.args.node c.in_edges-edge-items.result.now c.loop-edge.edge-index e c.in_edges-edge-items.ensures c.loop-edge-test.true c.edge-item.is)
    c.loop-edge.invariant
    (more_delivered flow r e tops c.loop-edge.messages.items c.add_delivered.new.messages.items
    (subst (λ (xs : List OfEdge). AreGreatestOn flow e xs tops) c.as_slice.ensures c.in_ok-tops.ensures)
    (c.in_ok-add_delivered.ensures ∙ ap (λ (ts : List Stamp). c.loop-edge.messages.items ++ map (message_at e) ts) c.deref.ensures.value))

pub returns : goal.returns
returns c =
    subst (λ es. AreOnEdges (AreDeliveredBack c.args.flow.now c.args.recorded.now) es c.loop-edge.messages.items)
    (take_all c.loop-edge.edge-index c.in_edges-edge-items.result.now c.loop-edge-test.false ∙ c.in_edges-edge-items.ensures) c.loop-edge.invariant
