use Rattle.std.proofs.Common.{subst, sym}
use Rattle.std.specs.List.{AllZip}
use Rattle.fw_flow.specs.Dataflow.{policy_of, in_edges, out_edges}
use Rattle.fw_flow.specs.Restoring.{can_resend}
use Rattle.fw_settle.specs.Checkpoints.{IsCoverDelivered, IsDiscarded, IsOfEdge}
use Rattle.fw_settle.proofs.record.recorded_at.Goals as goal

pub returns : goal.returns
returns c =
    let flow = c.args.running.now.flow in
    let traces = c.args.running.now.traces in
    record {
      front = c.in_ok-copy.ensures;
      notified = c.in_ok-notified_cover.ensures.cover;
      delivered = subst (AllZip (IsOfEdge (IsCoverDelivered flow traces c.args.front.now)) (in_edges flow c.args.node)) (sym c.of.ensures) c.in_ok-delivered_at.ensures;
      discarded = subst (AllZip (IsOfEdge (IsDiscarded flow traces c.args.front.now (can_resend (policy_of flow c.args.node)))) (out_edges flow c.args.node)) (sym c.of-2.ensures)
          c.in_ok-discarded_at.ensures;
    }
