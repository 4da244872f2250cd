use Rattle.std.specs.Option.{option_copied}
use Rattle.fw_frontier.specs.Front.{frontier_of}
use Rattle.fw_flow.specs.Dataflow.{receiver, bounds_of}
use Rattle.fw_flow.specs.declared.restoring.Restoring.TheVariants.{Bound, Anything}
use Rattle.fw_offers.proofs.WayLaws.{delivered_by, delivered_by_records}
use Rattle.fw_offers.proofs.sides.delivered_passes.Goals as goal

pub returns-in-Bound : goal.returns-in-Bound
returns-in-Bound c = λ r.
    let b = bounds_of c.args.flow.now (receiver c.args.flow.now c.args.edge) in
    delivered_by c.args.flow.now c.args.offers.now c.args.edge c.dst-node.result c.args.front.now (frontier_of b c.args.bound.now) c.subset.result Bound
    c.dst-node.ensures c.in-Bound.ensures (c.subset.ensures.domain b c.requires)

pub returns-in-Anything : goal.returns-in-Anything
returns-in-Anything c = λ r.
    let b = bounds_of c.args.flow.now (receiver c.args.flow.now c.args.edge) in
    delivered_by c.args.flow.now c.args.offers.now c.args.edge c.dst-node.result c.args.front.now (frontier_of b c.args.bound.now) c.subset-in-Anything.result Anything
    c.dst-node.ensures c.in-Anything.ensures (c.subset-in-Anything.ensures.domain b c.requires)

pub returns-in-Checkpoints : goal.returns-in-Checkpoints
returns-in-Checkpoints c = λ r.
    let b = bounds_of c.args.flow.now (receiver c.args.flow.now c.args.edge) in
    delivered_by_records c.args.flow.now c.args.offers.now c.args.edge c.dst-node.result c.args.front.now (frontier_of b c.args.bound.now) c.record_passes.result (option_copied c.args.checkpoint)
    c.dst-node.ensures c.in-Checkpoints.ensures r (c.record_passes.ensures b c.requires)
