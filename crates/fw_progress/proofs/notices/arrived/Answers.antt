use Rattle.fw_time.specs.Stamp.{in_domain}
use Rattle.fw_flow.specs.Dataflow.{bounds_of}
use Rattle.fw_progress.proofs.NoticeLaws.{all-front}
use Rattle.fw_progress.proofs.TargetLaws.{in_edge, left_come, left_none}
use Rattle.fw_progress.proofs.notices.arrived.Goals as goal

pub loop-edge-init : goal.loop-edge-init
loop-edge-init c =
    let b = bounds_of c.args.flow.now c.args.node in
    left_none b c.all-left.result (in_domain b) (all-front b c.all-left.result c.all-left.ensures)

pub come-requires-clause-there : goal.come-requires-clause-there
come-requires-clause-there c = (in_edge c.args.flow.now c.args.node c.in_edges-edges.result.now c.loop-edge.edge-index c.edge-item.result c.in_edges-edges.ensures c.loop-edge-test.true c.edge-item.is).0

pub come-requires-clause-sender : goal.come-requires-clause-sender
come-requires-clause-sender c =
    c.flow_is_well_formed.ensures.senders_declared c.edge-item.result
    (in_edge c.args.flow.now c.args.node c.in_edges-edges.result.now c.loop-edge.edge-index c.edge-item.result c.in_edges-edges.ensures c.loop-edge-test.true c.edge-item.is).0

pub loop-edge-preserved : goal.loop-edge-preserved
loop-edge-preserved c =
    left_come c.args.flow.now c.args.counts.now c.args.fronts.now c.args.node (in_domain (bounds_of c.args.flow.now c.args.node)) c.loop-edge.left c.in_ok-come.come c.narrow.new.left
    c.in_edges-edges.result.now c.loop-edge.edge-index c.edge-item.result c.in_edges-edges.ensures c.loop-edge-test.true c.edge-item.is c.loop-edge.invariant c.in_ok-come.ensures
    (c.in_ok-narrow.ensures (bounds_of c.args.flow.now c.args.node) c.loop-edge.invariant.canonical)
