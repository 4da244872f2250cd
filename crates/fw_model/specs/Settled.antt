-- What holds of what is settled, and how it can grow.
use Rattle.std.specs.Prelude.{◌≡◌, ℕ, ◌<◌, true, false, length}
use Rattle.fw_time.specs.Stamp.{Stamp}
use Rattle.fw_bag.specs.Keyed.{sorted_recs}
use Rattle.fw_frontier.specs.Frontier.{Frontier, Within}
use Rattle.fw_flow.specs.declared.choice.Choice.{Choice}
use Rattle.fw_flow.specs.Dataflow.{System, receiver, node_frontier}
use Rattle.fw_model.specs.Choice.{kept_of}
use Rattle.fw_model.specs.Denotation.{bag_at, Family}
use Rattle.fw_model.specs.History.{IsQuiet, is_owed_notice, delivered_messages, recs_at}
use Rattle.fw_model.specs.Machine.{Machine, is_failed, front_of, events}

-- more is complete than is settled, at some node that is not failed
pub record HasMoreToSettle (sys : System) (state : Machine) (done : ℕ → Frontier) : Type 0 where
  pub node : ℕ
  pub at : Stamp
  pub declared : node < length sys.flow.nodes
  pub live : is_failed state node ≡ false
  pub complete : done node at ≡ true
  pub unsettled : node_frontier sys.flow node (front_of state.settled node) at ≡ false

-- fullness: inside what is settled all has come, so that nothing is pending and nothing is owed
pub record IsFull (sys : System) (state : Machine) : Type 0 where
  pub quiet : (p : ℕ) (t : Stamp) → node_frontier sys.flow p (front_of state.settled p) t ≡ true
      → IsQuiet sys (events state.history) p t
  pub paid : (p : ℕ) (t : Stamp) → node_frontier sys.flow p (front_of state.settled p) t ≡ true
      → is_owed_notice sys (events state.history) p t ≡ false

-- a node is cut to what is settled, or to less
abbrev pub IsCutWithinSettled : System → Machine → Choice → ℕ → Type 0
IsCutWithinSettled sys state choice p =
    Within (kept_of sys.flow choice p) (node_frontier sys.flow p (front_of state.settled p))

-- Inside what is settled, what was delivered on each edge is what the family has there, and no node is owed a notification.
pub record IsDenotedInside (sys : System) (family : Family) (state : Machine) : Type 0 where
  pub denoted : (e : ℕ) → e < length sys.flow.edges → (t : Stamp)
      → node_frontier sys.flow (receiver sys.flow e) (front_of state.settled (receiver sys.flow e)) t ≡ true
      → sorted_recs (recs_at t (delivered_messages (events state.history) e)) ≡ bag_at family e t
  pub paid : (p : ℕ) → p < length sys.flow.nodes → (t : Stamp) → node_frontier sys.flow p (front_of state.settled p) t ≡ true
      → is_owed_notice sys (events state.history) p t ≡ false
