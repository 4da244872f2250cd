use Rattle.std.proofs.Common.{arith}
use Rattle.fw_flow.specs.Dataflow.{bounds_of}
use Rattle.fw_progress.specs.Counts.{clear_by}
use Rattle.fw_progress.proofs.TargetLaws.{in_edge, left_quiet, left_none}
use Rattle.fw_progress.proofs.target.quiet.Goals as goal

pub loop-edge-init : goal.loop-edge-init
loop-edge-init c = left_none (bounds_of c.args.flow.now c.args.node) c.in_ok-left.left (clear_by c.args.flow.now c.args.counts.now c.args.node) c.in_ok-left.ensures

pub narrow_to_pending-requires : goal.narrow_to_pending-requires
narrow_to_pending-requires c =
    let there = (in_edge c.args.flow.now c.args.node c.in_edges-edges.result.now c.loop-edge.edge-index c.edge-item.result c.in_edges-edges.ensures c.loop-edge-test.true c.edge-item.is).0 in
    let each = c.requires.counts.pending_each in
    omega (arith, each, there)

pub loop-edge-preserved : goal.loop-edge-preserved
loop-edge-preserved c =
    left_quiet c.args.flow.now c.args.counts.now c.args.node c.loop-edge.left c.narrow_to_pending.new.left
    c.in_edges-edges.result.now c.loop-edge.edge-index c.edge-item.result c.requires.counts c.in_edges-edges.ensures c.loop-edge-test.true c.edge-item.is c.loop-edge.invariant
    (c.in_ok-narrow_to_pending.ensures (bounds_of c.args.flow.now c.args.node) c.loop-edge.invariant.canonical)
