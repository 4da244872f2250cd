use Rattle.std.proofs.Common.{◌≡◌, ℕ, List, sym, ap, ◌∙◌, subst}
use Rattle.fw_bag.specs.Arrivals.{Arrival, arrival}
use Rattle.fw_flow.specs.Kind.{Kind}
use Rattle.fw_flow.specs.Dataflow.{kind_of, in_edges, send_stamp_of_kind}
use Rattle.fw_table.specs.Sent.{sent_if_at}
use Rattle.fw_flow.specs.declared.event.Event.TheVariants.{Deliver}
use Rattle.fw_flow.specs.NodeFunction.{sends}
use Rattle.fw_model.specs.SortedMessages.{sorted_messages}
use Rattle.fw_node.specs.Answers.{caused_by, recs_for, without_causes}
use Rattle.fw_node.specs.Arrived.{arrived, place_in}
use Rattle.fw_node.specs.Past.{past_of}
use Rattle.fw_node.specs.TimedTable.{IsSideOf}
use Rattle.fw_node.proofs.MessageLaws.{sends-cause}
use Rattle.fw_node.proofs.NodeLaws.{delivery_sends}
use Rattle.fw_node.specs.declared.sends.Sends.TheVariants.{AtOneStamp}
use Rattle.fw_node.proofs.NodeOfLaws.{can-send, of_node}
use Rattle.fw_node.proofs.node.Node.deliver.Goals as goal

pub returns-in-Ok-clause-in_order : goal.returns-in-Ok-clause-in_order
returns-in-Ok-clause-in_order c = λ sys p settled before m at_is rec_is edge out node.
    let ins : List ℕ = in_edges sys.flow p in
    let k : Kind = kind_of sys.flow p in
    let came : List Arrival = arrived ins before in
    let side : c.side_of-side.result ≡ place_in ins c.args.edge =
    c.side_of-side.ensures ∙ ap (λ es. place_in es c.args.edge) (c.deref.ensures.value ∙ node.sides) in
    let P : ℕ → Type 0 = λ n. IsSideOf k n in
    let same_arrival : arrival c.side_of-side.result c.args.at.now c.args.rec ≡ arrival (place_in ins c.args.edge) m.at m.rec =
    ap (λ n. arrival n c.args.at.now c.args.rec) side ∙ ap (λ t. arrival (place_in ins c.args.edge) t c.args.rec) (sym at_is)
    ∙ ap (λ r. arrival (place_in ins c.args.edge) m.at r) (sym rec_is) in
    let recs = c.in-Ok.ensures.sent sys.flow k (past_of ins settled before) node.table (subst P (sym side) (node.places c.args.edge edge)) out
    ∙ ap (λ (a : Arrival). sent_if_at (send_stamp_of_kind sys.flow k a.at) (recs_for k came a)) same_arrival
    ∙ sym (delivery_sends sys p before c.args.edge m edge node.on_edges) in
    ap (caused_by c.args.at.now) recs ∙ ap (λ t. caused_by t (without_causes (sends sys p before (Deliver c.args.edge m)))) (sym at_is)
    ∙ sends-cause sys p before (Deliver c.args.edge m)

pub returns-in-Ok-clause-sent : goal.returns-in-Ok-clause-sent
returns-in-Ok-clause-sent c = λ sys p settled before m at_is rec_is edge out node.
    ap sorted_messages (returns-in-Ok-clause-in_order c sys p settled before m at_is rec_is edge out node)

pub returns-in-Ok-clause-domain : goal.returns-in-Ok-clause-domain
returns-in-Ok-clause-domain c = λ flow p w n.
    can-send flow p c.args.at.now (AtOneStamp c.in-Ok.sent) w (of_node flow p c.args.self.now c.args.at.now n c.requires) (c.in-Ok.ensures.at flow (kind_of flow p) n.table)

pub returns-in-Ok-clause-node : goal.returns-in-Ok-clause-node
returns-in-Ok-clause-node c = λ flow p n. record { table = c.deliver.ensures.of_kind flow (kind_of flow p) ∙ n.table; sides = n.sides; bounds = n.bounds }

pub returns-in-Err-clause-node : goal.returns-in-Err-clause-node
returns-in-Err-clause-node c = λ flow p n. record { table = c.deliver.ensures.of_kind flow (kind_of flow p) ∙ n.table; sides = n.sides; bounds = n.bounds }
