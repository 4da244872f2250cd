use Rattle.std.proofs.Common.{arith}
use Rattle.fw_progress.proofs.EventLaws.{out_edge}
use Rattle.fw_progress.proofs.stamps.all_sent.Goals as goal

pub push_taken-requires : goal.push_taken-requires
push_taken-requires c =
    let there = out_edge c.args.flow.now c.args.node c.out_edges-edges.result.now c.loop-edge.edge-index c.edge-item.result c.out_edges-edges.ensures c.loop-edge-test.true c.edge-item.is in
    omega (arith, there, c.requires)
