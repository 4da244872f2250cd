-- What is left of each part where nodes fail.
use Rattle.std.specs.Prelude.{◌≡◌, ℕ, ◌<◌, true, false, List, length}
use Rattle.fw_flow.specs.Dataflow.{System}
use Rattle.fw_model.specs.Machine.{Machine, Write, is_failed, ack_count_of}
use Rattle.fw_model.specs.Steps.{with_failed, without_lost, is_in_flight}
use Rattle.fw_stands.specs.Staying.{KeepsSources, KeepsTraces}

-- ---- the step

-- the state in which these nodes are failed too, and their writes in flight are lost
abbrev pub failed_state : System → Machine → List ℕ → Machine
failed_state sys state ps = record state { failed = with_failed sys state ps; writes = without_lost ps state.writes }

-- a write in flight is one of a declared node that is not failed
abbrev pub IsOfLiveNode : System → Machine → Write → Type 0
IsOfLiveNode sys state write = is_in_flight write.stage ≡ true → (write.node < length sys.flow.nodes) × (is_failed state write.node ≡ false)

-- ---- the rest

-- Bounds, inputs and traces stay as they were.
pub record KeepsWhatSurvives (sys : System) (state next : Machine) : Type 0 where
  pub bounds : (o : ℕ) → ack_count_of next o ≡ ack_count_of state o
  pub sources : KeepsSources sys state next
  pub traces : KeepsTraces sys state next
