use Rattle.std.proofs.Common.{ap, ◌∙◌}
use Rattle.fw_flow.specs.Dataflow.{sender, bounds_of}
use Rattle.fw_model.specs.Offers as spec
use Rattle.fw_offers.proofs.PassLaws.{sent_pass_at}
use Rattle.fw_offers.proofs.WayLaws.{sent_on_edges}
use Rattle.fw_offers.proofs.sides.sent_on_edge_passes.Goals as goal

pub returns : goal.returns
returns c =
    let flow = c.args.flow.now in
    let offers = c.args.offers.now in
    let p = sender flow c.args.edge in
    sent_pass_at flow (bounds_of flow p) c.domain.result c.domain-to.result c.args.edge c.args.front.now c.args.bound.now
    (spec.offered_sent offers p) c.sent_by.result.now c.sent_pass.result
    (c.domain.ensures ∙ ap (bounds_of flow) c.src-node.ensures) (c.domain-to.ensures ∙ ap (bounds_of flow) c.dst.ensures)
    (c.sent_by.ensures ∙ ap (spec.offered_sent offers) c.src-node.ensures) (sent_on_edges flow offers p c.requires) c.sent_pass.ensures
