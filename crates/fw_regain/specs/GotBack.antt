-- The stamps of a node's events inside a checkpoint are got back from the covers that its record holds.
use Rattle.std.specs.Prelude.{◌≡◌, ℕ, ◌<◌, true, false, List, [], map, length}
use Rattle.std.specs.List.{flat_map}
use Rattle.fw_time.specs.Stamp.{Stamp}
use Rattle.fw_frontier.specs.Frontier.{Frontier, everything}
use Rattle.fw_frontier.specs.Front.{Front}
use Rattle.fw_flow.specs.declared.choice.Cut.TheVariants.{At}
use Rattle.fw_flow.specs.declared.choice.Recorded.{Recorded}
use Rattle.fw_flow.specs.declared.choice.Stamps.{Stamps}
use Rattle.fw_flow.specs.declared.event.Event.{Event}
use Rattle.fw_flow.specs.declared.event.Message.{Message}
use Rattle.fw_flow.specs.Dataflow.{System, Dataflow, bounds_of, is_sequence_kind, kind_of, node_frontier, policy_of, receiver, sender}
use Rattle.fw_flow.specs.WellFormed.{IsWellFormedSystem}
use Rattle.fw_model.specs.Sending.{is_single_kind}
use Rattle.fw_model.specs.Covers.{covers_in, stamp_of_notice}
use Rattle.fw_model.specs.EventStamps.{AreStampsIf, tells_sent}
use Rattle.fw_model.specs.Filtering.{events_inside}
use Rattle.fw_model.specs.History.{delivered_messages}
use Rattle.fw_model.specs.Machine.{Machine, events}
use Rattle.fw_model.specs.Offers.{AreAtEdgeStamps, counted_on_edge, front_of_edge, stamps_on, stamps_on_from}
use Rattle.fw_model.specs.Reached.{IsReached}
use Rattle.fw_model.specs.Thinned.{IsThinned}
use Rattle.fw_model.specs.Writes.{takes_checkpoints}
use Rattle.fw_regain.specs.Causes.{message_of_told}
use Rattle.fw_regain.specs.Greatest.{AreGreatestIn}

-- What was sent on edge e is got back: as the greatest stamps inside the cover, with the causes that they tell; of a sequence, as the
-- greatest numbers.
pub record IsSentGotBack (flow : Dataflow) (p : ℕ) (r : Recorded) (stamps : Stamps) (e : ℕ) : Type 0 where
  pub told : is_single_kind (kind_of flow p) ≡ true → (tops : List Stamp)
      × AreGreatestIn (bounds_of flow (receiver flow e)) (front_of_edge (bounds_of flow (receiver flow e)) e r.discarded) tops
      × (counted_on_edge e stamps.sent ≡ map (message_of_told flow e) tops)
  pub numbered : is_sequence_kind (kind_of flow p) ≡ true
      → AreGreatestIn (bounds_of flow (receiver flow e)) (front_of_edge (bounds_of flow (receiver flow e)) e r.discarded)
      (stamps_on_from e (everything (bounds_of flow (sender flow e))) stamps.sent)

-- What was delivered to node p, and of what it was notified, is got back from what a record of it covers: as the greatest stamps.
pub record AreReceivedBack (flow : Dataflow) (p : ℕ) (r : Recorded) (stamps : Stamps) : Type 0 where
  pub delivered : (d : ℕ) → d < length flow.edges → receiver flow d ≡ p
      → AreGreatestIn (bounds_of flow p) (front_of_edge (bounds_of flow p) d r.delivered) (stamps_on d stamps.delivered)
  pub notified : AreGreatestIn (bounds_of flow p) (node_frontier flow p r.notified) stamps.notified

-- So is what it sent, where it cannot send that again; where it can, nothing is told of it.
pub record AreGotBack (flow : Dataflow) (p : ℕ) (r : Recorded) (stamps : Stamps) : Type 0 where
  pub received : AreReceivedBack flow p r stamps
  pub on_edges : AreAtEdgeStamps flow stamps.delivered × AreAtEdgeStamps flow stamps.sent
  pub sent : tells_sent flow p ≡ true → (e : ℕ) → e < length flow.edges → sender flow e ≡ p → IsSentGotBack flow p r stamps e
  pub none_sent : tells_sent flow p ≡ false → stamps.sent ≡ []

-- The stamps stand for what was delivered to node p in a history, and for what it was notified of, thinned inside a base.
pub record StandForReceived (flow : Dataflow) (h : List Event) (p : ℕ) (base : Frontier) (stamps : Stamps) : Type 0 where
  pub delivered : (d : ℕ) → receiver flow d ≡ p
      → IsThinned base (map (λ (m : Message). m.at) (delivered_messages h d)) (stamps_on d stamps.delivered)
  pub notified : IsThinned base (flat_map (stamp_of_notice p) h) stamps.notified

-- In any state, where a record holds the covers of what was delivered to a node that takes checkpoints inside a front, and of what it was
-- notified of: stamps that are got back from it stand for that.
abbrev pub ReceivedStampsAreGotBack : Type 0
ReceivedStampsAreGotBack = (sys : System) (state : Machine) (p : ℕ) (f : Front) (r : Recorded) (stamps : Stamps) → IsWellFormedSystem sys
    → p < length sys.flow.nodes → takes_checkpoints (policy_of sys.flow p) ≡ true
    → ((d : ℕ) → d < length sys.flow.edges → receiver sys.flow d ≡ p
    → front_of_edge (bounds_of sys.flow p) d r.delivered ≡ (covers_in sys state).delivered d (At f))
    → node_frontier sys.flow p r.notified ≡ (covers_in sys state).notified p (At f)
    → AreReceivedBack sys.flow p r stamps
    → StandForReceived sys.flow (events_inside (node_frontier sys.flow p f) (events state.history)) p (node_frontier sys.flow p f) stamps

-- In each state to which steps of a well-formed system lead from the first one, where a record holds the covers of the events of a node
-- that takes checkpoints inside a front: stamps that are got back from it stand for these events.
abbrev pub StampsAreGotBack : Type 0
StampsAreGotBack = (sys : System) (state : Machine) (p : ℕ) (f : Front) (r : Recorded) (stamps : Stamps) → IsWellFormedSystem sys
    → IsReached sys state → p < length sys.flow.nodes → takes_checkpoints (policy_of sys.flow p) ≡ true
    → ((d : ℕ) → d < length sys.flow.edges → receiver sys.flow d ≡ p
    → front_of_edge (bounds_of sys.flow p) d r.delivered ≡ (covers_in sys state).delivered d (At f))
    → node_frontier sys.flow p r.notified ≡ (covers_in sys state).notified p (At f)
    → ((e : ℕ) → e < length sys.flow.edges → sender sys.flow e ≡ p
    → front_of_edge (bounds_of sys.flow (receiver sys.flow e)) e r.discarded ≡ (covers_in sys state).discarded e (At f))
    → AreGotBack sys.flow p r stamps
    → AreStampsIf true sys (events_inside (node_frontier sys.flow p f) (events state.history)) p (node_frontier sys.flow p f) stamps
