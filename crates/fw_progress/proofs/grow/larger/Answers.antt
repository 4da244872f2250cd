use Rattle.std.proofs.Common.{refl, arith}
use Rattle.fw_flow.specs.Dataflow.{bounds_of}
use Rattle.fw_progress.specs.Counts.{quiet_by}
use Rattle.fw_progress.proofs.TargetLaws.{in_edge, left_none, left_projected, left_all, left_within}
use Rattle.fw_progress.proofs.GrowLaws.{no_more, not_more}
use Rattle.fw_progress.proofs.grow.larger.Goals as goal

pub loop-edge-init : goal.loop-edge-init
loop-edge-init c = left_none (bounds_of c.args.flow.now c.args.node) c.in_ok-left.left (quiet_by c.args.flow.now c.args.counts.now c.args.node) c.in_ok-left.ensures

pub projected-requires-clause-there : goal.projected-requires-clause-there
projected-requires-clause-there c = (in_edge c.args.flow.now c.args.node c.in_edges-edges.result.now c.loop-edge.edge-index c.edge-item.result c.in_edges-edges.ensures c.loop-edge-test.true c.edge-item.is).0

pub projected-requires-clause-sender : goal.projected-requires-clause-sender
projected-requires-clause-sender c =
    c.flow_is_well_formed.ensures.senders_declared c.edge-item.result
    (in_edge c.args.flow.now c.args.node c.in_edges-edges.result.now c.loop-edge.edge-index c.edge-item.result c.in_edges-edges.ensures c.loop-edge-test.true c.edge-item.is).0

pub loop-edge-preserved : goal.loop-edge-preserved
loop-edge-preserved c =
    left_projected c.args.flow.now c.args.counts.now c.args.fronts.now c.args.node c.loop-edge.left c.in_ok-projected.projected c.narrow.new.left
    c.in_edges-edges.result.now c.loop-edge.edge-index c.edge-item.result c.in_edges-edges.ensures c.loop-edge-test.true c.edge-item.is c.loop-edge.invariant c.in_ok-projected.ensures
    (c.in_ok-narrow.ensures (bounds_of c.args.flow.now c.args.node) c.loop-edge.invariant.canonical)

pub returns-then-subset-clause-none : goal.returns-then-subset-clause-none
returns-then-subset-clause-none c =
    let flow = c.args.flow.now in
    let counts = c.args.counts.now in
    let fronts = c.args.fronts.now in
    let at = c.place.ensures in
    no_more flow counts fronts c.args.node c.place.result c.loop-edge.left c.index-fronts-place.result c.subset.result
    c.requires.canonical at (omega (arith, c.requires.there, c.requires.one_each, at)) c.index-fronts-place.is c.subset.ensures.domain c.if-subset.true
    (left_within flow counts fronts c.args.node c.loop-edge.left c.in_edges-edges.result.now c.loop-edge.edge-index c.in_edges-edges.ensures c.loop-edge.invariant)

pub returns-clause-most : goal.returns-clause-most
returns-clause-most c =
    left_all c.args.flow.now c.args.counts.now c.args.fronts.now c.args.node c.loop-edge.left c.in_edges-edges.result.now c.loop-edge.edge-index
    c.in_edges-edges.ensures c.loop-edge-test.false c.loop-edge.invariant

pub returns-then-not-is_more-clause-none : goal.returns-then-not-is_more-clause-none
returns-then-not-is_more-clause-none c =
    let flow = c.args.flow.now in
    let counts = c.args.counts.now in
    let fronts = c.args.fronts.now in
    not_more flow counts fronts c.args.node c.loop-edge.left
    (left_all flow counts fronts c.args.node c.loop-edge.left c.in_edges-edges.result.now c.loop-edge.edge-index c.in_edges-edges.ensures c.loop-edge-test.false c.loop-edge.invariant)
    (c.if-not-is_more.ensures.same refl)
