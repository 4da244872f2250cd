use Rattle.std.proofs.Common.{refl}
use Rattle.fw_progress.proofs.IntoLaws.{in_edge}
use Rattle.fw_settle.specs.Checkpoints.{IsCoverDelivered}
use Rattle.fw_settle.proofs.EachEdgeLaws.{zip_next}
use Rattle.fw_settle.proofs.record.delivered_at.Goals as goal

pub delivered_cover-requires-clause-there : goal.delivered_cover-requires-clause-there
delivered_cover-requires-clause-there c =
    in_edge c.args.running.now.flow c.args.node c.in_edges-edge-items.result.now c.loop-edge.edge-index c.edge-item.result c.in_edges-edge-items.ensures c.loop-edge-test.true c.edge-item.is

pub loop-edge-preserved : goal.loop-edge-preserved
loop-edge-preserved c =
    zip_next (IsCoverDelivered c.args.running.now.flow c.args.running.now.traces c.args.front.now) c.in_edges-edge-items.result.now c.loop-edge.edge-index c.edge-item.result
    c.loop-edge.delivered.items c.push.new.self.items (record { edge = c.edge-item.result; front = c.in_ok-front.front }) c.loop-edge-test.true c.edge-item.is
    c.loop-edge.invariant refl c.in_ok-front.ensures.cover c.in_ok-push.ensures.items
