use Rattle.fw_offers.proofs.WayLaws.{delivered_present, notified_present}
use Rattle.fw_offers.proofs.sides.present_passes.Goals as goal

pub returns-in-Delivered : goal.returns-in-Delivered
returns-in-Delivered c =
    delivered_present c.args.flow.now c.args.offers.now c.args.side c.in-Delivered.edge c.all-all.result c.args.bound.now c.delivered_on_edge_passes.result
    c.in-Delivered.is c.all-all.ensures c.delivered_on_edge_passes.ensures

pub returns : goal.returns
returns c =
    notified_present c.args.flow.now c.args.offers.now c.args.side c.in-Notified.node c.all-all.result c.args.bound.now c.notices_pass.result
    c.in-Notified.is c.all-all.ensures c.notices_pass.ensures
