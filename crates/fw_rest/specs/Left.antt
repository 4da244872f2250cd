-- What is left of a run once nothing waits, each checkpoint is asked and a collection is taken.
use Rattle.std.specs.Prelude.{◌≡◌, ◌↔◌, ◌⊎◌, ℕ, ◌+◌, ◌<◌, ◌≤◌, ◌==◌, ◌&&◌, true, List, [], ◌∷◌, filter, length, map}
use Rattle.std.specs.List.{AllByRecursion}
use Rattle.fw_frontier.specs.Front.{Front}
use Rattle.fw_flow.specs.declared.event.Message.{Message}
use Rattle.fw_flow.specs.declared.kind.Kind.TheVariants.{Regroup}
use Rattle.fw_flow.specs.declared.kind.Policy.TheVariants as policy
use Rattle.fw_flow.specs.declared.step.Step.{Step}
use Rattle.fw_flow.specs.declared.step.Step.TheVariants.{Checkpoint, Collect}
use Rattle.fw_flow.specs.Dataflow.{System, Dataflow, kind_of, policy_of, receiver, batches_of, is_input_kind, node_ids, node_frontier}
use Rattle.fw_flow.specs.WellFormed.{may_keep_nothing}
use Rattle.fw_model.specs.Auto.{IsIdle, IsAutoRun}
use Rattle.fw_model.specs.History.{sent_messages}
use Rattle.fw_model.specs.Machine.{Machine, Write, acknowledged, collected, checkpoint, events, front_of}
use Rattle.fw_model.specs.Steps.{Outcome, StepsTo, Run, stands_on}
use Rattle.fw_model.specs.Writes.{takes_checkpoints, not_collected, HasOne}

-- no node numbers epochs anew
abbrev pub HasNoRegroup : Dataflow → Type 0
HasNoRegroup flow = (p n : ℕ) → kind_of flow p ≡ Regroup n → ⊥

-- no node has a checkpoint to be asked: its newest one, if it takes them when asked, holds all that is settled
abbrev pub HaveAllAsked : System → Machine → Type 0
HaveAllAsked sys state = (p : ℕ) → p < length sys.flow.nodes → IsIdle sys state (Checkpoint p)

-- a write of the node that was not collected
pub record IsLeftOf (p : ℕ) (write : Write) : Type 0 where
  pub node : write.node ≡ p
  pub left : not_collected write ≡ true

-- a checkpoint of the node that was not collected and holds each stamp
pub record IsEveryLeftOf (p : ℕ) (write : Write) : Type 0 where
  pub is_left : IsLeftOf p write
  pub low : List Front
  pub every : write.written ≡ checkpoint [] low

-- how many writes of node p were not collected
abbrev pub count_left : ℕ → List Write → ℕ
count_left p writes = length (filter (λ write. write.node == p && not_collected write) writes)

-- Of node p its newest write is left, a checkpoint that holds each stamp, and besides it exactly the writes on which it stands, seven at
-- most. Each that is left was acknowledged.
pub record LeavesNewest (p : ℕ) (writes : List Write) : Type 0 where
  pub newest : HasOne (IsEveryLeftOf p) writes
  pub last : AllByRecursion (λ (write : Write). write.node ≡ p → ⊥) newest.later
  pub left : AllByRecursion (λ (write : Write). IsLeftOf p write ↔ (IsEveryLeftOf p write ⊎ (stands_on writes newest.one write ≡ true))) writes
  pub acknowledged : AllByRecursion (λ (write : Write). IsLeftOf p write → write.stage ≡ acknowledged) writes
  pub count : count_left p writes ≡ newest.one.depth + 1
  pub few : newest.one.depth ≤ 7

-- Each batch lies below the low watermark, so no input holds one; each message that was sent lies below that of its receiver, so no log
-- holds one. Of each node that takes checkpoints its newest write is left, with those on which it stands; and of a node that logs each
-- event and may keep nothing each write was collected.
pub record NothingIsLeft (sys : System) (state : Machine) : Type 0 where
  pub batches : (s x : ℕ) → is_input_kind (kind_of sys.flow s) ≡ true → x < length (batches_of sys s)
      → node_frontier sys.flow s (front_of state.low s) (x ∷ []) ≡ true
  pub logs : (e : ℕ) → e < length sys.flow.edges
      → AllByRecursion (λ (m : Message). node_frontier sys.flow (receiver sys.flow e) (front_of state.low (receiver sys.flow e)) m.at ≡ true)
      (sent_messages sys (events state.history) e)
  pub records : (p : ℕ) → p < length sys.flow.nodes → takes_checkpoints (policy_of sys.flow p) ≡ true → LeavesNewest p state.writes
  pub events : (p : ℕ) → policy_of sys.flow p ≡ policy.Full → may_keep_nothing (kind_of sys.flow p) ≡ true
      → AllByRecursion (λ (write : Write). write.node ≡ p → write.stage ≡ collected) state.writes

-- From a state each node is asked for a checkpoint, enabled or not, then `auto` is taken, at most so many steps, and then a collection,
-- enabled or not.
pub record AsksAndCollects (sys : System) (state : Machine) (most : ℕ) (last : Machine) : Type 0 where
  pub asks : List Outcome
  pub asked : Machine
  pub asking : Run sys state (map Checkpoint (node_ids sys.flow)) asks asked
  pub steps : List Step
  pub rested : Machine
  pub taken : IsAutoRun sys asked most steps rested
  pub collection : Outcome
  pub collects : StepsTo sys rested Collect last collection
