-- Laws of answers: what a node answers from what came is what the node function gives for its events.
use Rattle.std.specs.Prelude.{◌≡◌, ℕ, ◌<◌, Bool, true, false, List, length}
use Rattle.fw_time.specs.Stamp.{Stamp}
use Rattle.fw_bag.specs.Arrivals.{Arrival, arrivals_inside}
use Rattle.fw_flow.specs.declared.event.Event.{Event}
use Rattle.fw_flow.specs.declared.event.Event.TheVariants.{Deliver, Notify}
use Rattle.fw_flow.specs.declared.event.Message.{Message}
use Rattle.fw_flow.specs.Kind.{Kind}
use Rattle.fw_flow.specs.declared.kind.Kind.TheVariants.{Total, Ledger}
use Rattle.fw_flow.specs.Dataflow.{Dataflow, System, kind_of, in_edges, send_stamp, is_sequence_kind}
use Rattle.fw_flow.specs.NodeFunction.{sends}
use Rattle.fw_flow.specs.Projection.{events_at}
use Rattle.fw_model.specs.Sending.{is_single_kind}
use Rattle.fw_model.specs.Filtering.{events_inside}
use Rattle.fw_model.specs.SortedMessages.{sorted_messages}
use Rattle.fw_node.specs.Answers.{recs_for, recs_at_notice, caused_by, without_causes}
use Rattle.fw_node.specs.Sends.{notice_sends}
use Rattle.fw_table.specs.Sent.{sent_if_at}
use Rattle.fw_node.specs.Arrived.{place_in, arrived, IsOneOf, AreOnEdges}

-- what a delivery makes a node of a single kind send, from what came to it
abbrev pub DeliveriesAnswer : Type 0
DeliveriesAnswer = (sys : System) (p : ℕ) (before : List Event) (e : ℕ) (m : Message) → is_single_kind (kind_of sys.flow p) ≡ true
    → IsOneOf (in_edges sys.flow p) e → AreOnEdges (in_edges sys.flow p) before
    → without_causes (sends sys p before (Deliver e m)) ≡ sent_if_at (send_stamp sys.flow p m.at)
    (recs_for (kind_of sys.flow p) (arrived (in_edges sys.flow p) before) (record { side = place_in (in_edges sys.flow p) e; at = m.at; rec = m.rec }))

-- what a notification makes a node send that is no sequence, from what came to it
abbrev pub NotificationsAnswer : Type 0
NotificationsAnswer = (sys : System) (p : ℕ) (before : List Event) (t : Stamp) → is_sequence_kind (kind_of sys.flow p) ≡ false
    → without_causes (sends sys p before (Notify p t))
    ≡ sent_if_at (send_stamp sys.flow p t) (recs_at_notice (kind_of sys.flow p) (arrived (in_edges sys.flow p) before) t)

-- what `notice_sends` says of a notification, with the notification's stamp as the cause, is as a bag what the node function sends
abbrev pub NoticesAreSends : Type 0
NoticesAreSends = (sys : System) (p : ℕ) (before : List Event) (t : Stamp)
    → sorted_messages (sends sys p before (Notify p t)) ≡ sorted_messages (caused_by t (notice_sends (kind_of sys.flow p) before t))

-- which recs a node of the kind sends at a stamp depends on what came at that stamp alone; not so the numbers of a sequence's recs
abbrev pub IsPerTime : Kind → Type 0
IsPerTime Total = ⊥
IsPerTime Ledger = ⊥
IsPerTime kind = Unit {0}

-- a node of such a kind answers a delivery at a stamp that is kept from the kept arrivals as from all
abbrev pub DeliveriesNeedTheirTime : Type 0
DeliveriesNeedTheirTime = (k : Kind) → IsPerTime k → (keep : Stamp → Bool) (came : List Arrival) (a : Arrival) → keep a.at ≡ true
    → recs_for k (arrivals_inside keep came) a ≡ recs_for k came a

-- and a notification
abbrev pub NotificationsNeedTheirTime : Type 0
NotificationsNeedTheirTime = (k : Kind) → IsPerTime k → (keep : Stamp → Bool) (came : List Arrival) (t : Stamp) → keep t ≡ true
    → recs_at_notice k (arrivals_inside keep came) t ≡ recs_at_notice k came t

-- what came to the events inside is what came inside
abbrev pub EventsInsideArrive : Type 0
EventsInsideArrive = (ins : List ℕ) (f : Stamp → Bool) (vs : List Event) → arrived ins (events_inside f vs) ≡ arrivals_inside f (arrived ins vs)

-- each delivery among the events of a node is on one of its in-edges, and among those at stamps inside too
abbrev pub EventsComeOnInEdges : Type 0
EventsComeOnInEdges = (flow : Dataflow) (p : ℕ) → p < length flow.nodes → (h : List Event) (f : Stamp → Bool)
    → AreOnEdges (in_edges flow p) (events_at flow p h) × AreOnEdges (in_edges flow p) (events_inside f (events_at flow p h))
