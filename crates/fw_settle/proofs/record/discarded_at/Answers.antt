use Rattle.std.proofs.Common.{◌∙◌, ap, subst, refl}
use Rattle.std.proofs.lemmas.List.{take_all}
use Rattle.std.specs.List.{AllZip}
use Rattle.fw_flow.specs.Dataflow.{out_edges}
use Rattle.fw_flow.specs.Restoring.{can_resend}
use Rattle.fw_settle.specs.Checkpoints.{IsDiscarded, IsOfEdge}
use Rattle.fw_settle.proofs.EachEdgeLaws.{zip_next, out_edge}
use Rattle.fw_settle.proofs.record.discarded_at.Goals as goal

pub discarded_on-requires-clause-there : goal.discarded_on-requires-clause-there
discarded_on-requires-clause-there c =
    out_edge c.args.running.now.flow c.args.node c.out_edges-edge-items.result.now c.loop-edge.edge-index c.edge-item.result c.out_edges-edge-items.ensures c.loop-edge-test.true c.edge-item.is

pub loop-edge-preserved : goal.loop-edge-preserved
loop-edge-preserved c =
    zip_next (IsDiscarded c.args.running.now.flow c.args.running.now.traces c.args.front.now c.can_resend-resends.result) c.out_edges-edge-items.result.now c.loop-edge.edge-index
    c.edge-item.result c.loop-edge.discarded.items c.push.new.self.items (record { edge = c.edge-item.result; front = c.in_ok-front.front }) c.loop-edge-test.true
    c.edge-item.is c.loop-edge.invariant refl c.in_ok-front.ensures c.in_ok-push.ensures.items

pub returns : goal.returns
returns c =
    let flow = c.args.running.now.flow in
    subst (λ resends. AllZip (IsOfEdge (IsDiscarded flow c.args.running.now.traces c.args.front.now resends)) (out_edges flow c.args.node) c.loop-edge.discarded.items)
    (c.can_resend-resends.ensures ∙ ap can_resend c.policy.ensures)
    (subst (λ es. AllZip (IsOfEdge (IsDiscarded flow c.args.running.now.traces c.args.front.now c.can_resend-resends.result)) es c.loop-edge.discarded.items)
    (take_all c.loop-edge.edge-index c.out_edges-edge-items.result.now c.loop-edge-test.false ∙ c.out_edges-edge-items.ensures) c.loop-edge.invariant)
