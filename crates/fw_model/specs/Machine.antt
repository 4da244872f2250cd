-- The state of the event-list machine.
use Rattle.std.specs.Prelude.{ℕ, Bool, false, List, [], ◌∷◌, map, slice_index_or, Option}
use Rattle.fw_time.specs.declared.stamp.Bounds.{Bounds}
use Rattle.fw_frontier.specs.Front.{Front, IsCanonical, least_stamps}
use Rattle.fw_frontier.specs.Frontier.{Frontier}
use Rattle.fw_flow.specs.declared.event.Event.{Event}
use Rattle.fw_flow.specs.Dataflow.{System, Dataflow, bounds_of, node_ids, node_frontier}

-- an event with its serial number, which no other event ever has
pub record SerialEvent : Type 0 where
  pub serial : ℕ
  pub event : Event

-- what a write holds: what a node's events in a frontier made, kept with the low watermark of that moment; or one event
pub data Written : Type 0 where
  checkpoint : Front → List Front → Written
  logged_event : ℕ → Written

-- how far a write is
pub data Stage : Type 0 where
  in_flight : Stage
  acknowledged : Stage
  collected : Stage

-- A write of a node. A checkpoint may stand on an earlier one of its node: that one's front is its base, and it is one deeper. One
-- that is whole has no base and depth 0, and so has a logged event.
pub record Write : Type 0 where
  pub node : ℕ
  pub written : Written
  pub base : Option Front
  pub depth : ℕ
  pub stage : Stage

-- A state: the history, the latest event first, with the next serial; for each node what is settled, whether it failed,
-- how many stamps it acknowledged, and the low watermark; and the writes in order of asking.
pub record Machine : Type 0 where
  pub history : List SerialEvent
  pub next : ℕ
  pub settled : List Front
  pub writes : List Write
  pub failed : List Bool
  pub ack_counts : List ℕ
  pub low : List Front

-- the events of a history without their serials
abbrev pub events : List SerialEvent → List Event
events [] = []
events (v ∷ h) = v.event ∷ events h

-- the frontier of a domain with no stamp: its least stamps are outside
abbrev pub no_stamps : Bounds → Front
no_stamps = least_stamps

-- the first state: nothing has happened
abbrev pub first_state : System → Machine
first_state sys = record {
  history = [];
  next = 0;
  settled = map (λ p. no_stamps (bounds_of sys.flow p)) (node_ids sys.flow);
  writes = [];
  failed = map (λ p. false) (node_ids sys.flow);
  ack_counts = map (λ p. 0) (node_ids sys.flow);
  low = map (λ p. no_stamps (bounds_of sys.flow p)) (node_ids sys.flow);
}

-- the frontier of node p in a list of one for each node
abbrev pub front_of : List Front → ℕ → Front
front_of fronts p = slice_index_or fronts p []

-- whether node p is failed
abbrev pub is_failed : Machine → ℕ → Bool
is_failed state p = slice_index_or state.failed p false

-- how many stamps output o acknowledged
abbrev pub ack_count_of : Machine → ℕ → ℕ
ack_count_of state o = slice_index_or state.ack_counts o 0

-- the frontiers of nodes that are in a list, all past its end
abbrev pub family_of : Dataflow → List Front → ℕ → Frontier
family_of flow fronts p = node_frontier flow p (front_of fronts p)

-- each of the frontiers is the one list of its node's domain that names it
abbrev pub AreCanonical : Dataflow → List Front → Type 0
AreCanonical flow fronts = (p : ℕ) → IsCanonical (bounds_of flow p) (front_of fronts p)
