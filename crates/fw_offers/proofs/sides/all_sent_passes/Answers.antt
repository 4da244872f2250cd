use Rattle.std.proofs.Common.{sym, ◌∙◌}
use Rattle.fw_frontier.specs.Front.{frontier_of}
use Rattle.fw_flow.specs.Dataflow.{receiver, bounds_of}
use Rattle.fw_offers.proofs.WayLaws.{discarded_present}
use Rattle.fw_offers.proofs.sides.all_sent_passes.Goals as goal

pub returns : goal.returns
returns c =
    let b = bounds_of c.args.flow.now (receiver c.args.flow.now c.args.edge) in
    discarded_present c.args.flow.now c.args.offers.now c.args.edge c.src-node.result c.args.all.now (frontier_of b c.args.bound.now) c.sent_on_edge_passes.result
    (sym c.can_resend.ensures ∙ c.if-can_resend.false) c.src-node.ensures c.requires.all c.sent_on_edge_passes.ensures
