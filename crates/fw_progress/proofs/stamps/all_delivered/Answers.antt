use Rattle.std.proofs.Common.{arith}
use Rattle.fw_progress.proofs.IntoLaws.{in_edge}
use Rattle.fw_progress.proofs.stamps.all_delivered.Goals as goal

pub push_delivered-requires : goal.push_delivered-requires
push_delivered-requires c =
    let there = in_edge c.args.flow.now c.args.node c.in_edges-edges.result.now c.loop-edge.edge-index c.edge-item.result c.in_edges-edges.ensures c.loop-edge-test.true c.edge-item.is in
    omega (arith, there, c.requires)
