use Rattle.std.proofs.Common.{refl}
use Rattle.std.proofs.lemmas.Result.{IfOk-weaker}
use Rattle.fw_flow.specs.Dataflow.{sender, receiver}
use Rattle.fw_flow.specs.declared.side.Side.TheVariants.{Delivered, Discarded}
use Rattle.fw_model.specs.Lowerings.{choice_of}
use Rattle.fw_offers.proofs.RightLaws.{cut_here, there_at, delivered_at_cut, discarded_at_cut}
use Rattle.fw_offers.proofs.rights.right_of.Goals as goal

pub arrived_from_cut-requires : goal.arrived_from_cut-requires
arrived_from_cut-requires c =
    let flow = c.args.flow.now in
    let choice = choice_of c.args.cuts.now c.args.notices.now in
    let l = there_at flow c.args.side.now (Delivered c.in-Delivered.edge) c.requires.there c.in-Delivered.is in
    cut_here flow choice (sender flow c.in-Delivered.edge) c.src.result c.cut_at-cut.result.now c.requires.of_flow
    (c.flow_is_well_formed.ensures.senders_declared c.in-Delivered.edge l) (c.cut_at-cut.ensures choice refl) c.src.ensures

pub returns-in-Delivered : goal.returns-in-Delivered
returns-in-Delivered c =
    let flow = c.args.flow.now in
    let choice = choice_of c.args.cuts.now c.args.notices.now in
    IfOk-weaker c.arrived_from_cut.result _ _
    (λ g n. delivered_at_cut flow c.args.offers.now c.args.side.now c.in-Delivered.edge c.src.result choice g c.cut_at-cut.result.now c.in-Delivered.is (c.cut_at-cut.ensures choice refl) c.src.ensures n)
    c.arrived_from_cut.ensures

pub returns-in-Discarded : goal.returns-in-Discarded
returns-in-Discarded c =
    let flow = c.args.flow.now in
    let choice = choice_of c.args.cuts.now c.args.notices.now in
    let l = there_at flow c.args.side.now (Discarded c.in-Discarded.edge) c.requires.there c.in-Discarded.is in
    let p = receiver flow c.in-Discarded.edge in
    let canonical = cut_here flow choice p c.dst.result c.cut_at.result.now c.requires.of_flow
    (c.flow_is_well_formed.ensures.receivers_declared c.in-Discarded.edge l) (c.cut_at.ensures choice refl) c.dst.ensures in
    IfOk-weaker c.kept.result _ _
    (λ g n. discarded_at_cut flow c.args.offers.now c.args.side.now c.in-Discarded.edge c.dst.result choice g c.cut_at.result.now c.in-Discarded.is (c.cut_at.ensures choice refl) c.dst.ensures n)
    (c.kept.ensures flow p canonical)
