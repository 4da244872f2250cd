use Rattle.std.proofs.Common.{ap, ◌∙◌}
use Rattle.fw_flow.specs.Dataflow.{receiver, bounds_of}
use Rattle.fw_model.specs.Offers as spec
use Rattle.fw_offers.proofs.PassLaws.{delivered_pass_at}
use Rattle.fw_offers.proofs.sides.delivered_on_edge_passes.Goals as goal

pub returns : goal.returns
returns c =
    let flow = c.args.flow.now in
    let offers = c.args.offers.now in
    delivered_pass_at (bounds_of flow (receiver flow c.args.edge)) c.domain.result c.args.edge c.args.front.now c.args.bound.now
    (spec.delivered_to offers (receiver flow c.args.edge)) c.delivered_to.result.now c.delivered_pass.result
    (c.domain.ensures ∙ ap (bounds_of flow) c.dst-node.ensures) (c.delivered_to.ensures ∙ ap (spec.delivered_to offers) c.dst-node.ensures) c.delivered_pass.ensures
