use Rattle.std.proofs.lemmas.Result.{IfOk-weaker}
use Rattle.fw_flow.specs.Dataflow.{sender, receiver, bounds_of}
use Rattle.fw_model.specs.Covers.{set_of}
use Rattle.fw_offers.proofs.RightLaws.{arrived_same}
use Rattle.fw_offers.proofs.rights.arrived_from_cut.Goals as goal

pub arrived-requires : goal.arrived-requires
arrived-requires c = (c.in_ok-front.ensures c.args.flow.now (sender c.args.flow.now c.args.edge) c.requires).canonical

pub returns : goal.returns
returns c =
    let flow = c.args.flow.now in
    let p = sender flow c.args.edge in
    IfOk-weaker c.arrived.result _ _
    (λ g n. arrived_same flow c.args.offers.now c.args.edge (bounds_of flow (receiver flow c.args.edge)) (bounds_of flow p) c.in_ok-front.front g (set_of flow p c.args.cut.now)
    (c.in_ok-front.ensures flow p c.requires) n)
    c.arrived.ensures
