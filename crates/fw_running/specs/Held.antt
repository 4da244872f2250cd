-- For which states of the machine an engine stands that was made of a root, before its first recovery.
use Rattle.std.specs.Prelude.{◌≡◌, ℕ, ◌<◌, true, Option, None, Result, Ok, Err, length}
use Rattle.fw_flow.specs.declared.kind.Policy.TheVariants as policy
use Rattle.fw_flow.specs.declared.restoring.Restoring.TheVariants.{Batches, Events}
use Rattle.fw_flow.specs.declared.step.Step.TheVariants.{Recover}
use Rattle.fw_flow.specs.Dataflow.{System, policy_of}
use Rattle.fw_flow.specs.Restoring.{way_of}
use Rattle.fw_model.specs.Choice.{logged_history}
use Rattle.fw_model.specs.Machine.{Machine, events, is_failed}
use Rattle.fw_keep.specs.Stored.{Records}
use Rattle.fw_policy.specs.View.{KnowsLosses, base_of}
use Rattle.fw_progress.specs.declared.traces.Traces.{Traces}
use Rattle.fw_progress.specs.Trace.{HasTraceOutside, IsTraceAmong}
use Rattle.fw_stands.specs.Parts.{IsTraceIn}
use Rattle.fw_running.specs.declared.fault.EngineFault.{EngineFault}
use Rattle.fw_running.specs.declared.fault.EngineFault.TheVariants as fault
use Rattle.fw_running.specs.declared.running.Running.{Running}
use Rattle.fw_running.specs.declared.stepped.Stepped.{Stepped}
use Rattle.fw_running.specs.Kept.{lost_at}
use Rattle.fw_running.specs.Stands.{StandsApart}
use Rattle.fw_running.specs.Steps.{Follows, IsStepEnabled, Trusts, outcome_of}

-- What is kept of the traces is of what happened; outside the low watermark those of an input are whole, and those of a node that logs
-- its events have what was logged.
pub record KnowsTracesHeld (sys : System) (state : Machine) (traces : Traces) : Type 0 where
  pub among : (p : ℕ) → p < length sys.flow.nodes → IsTraceAmong sys (events state.history) p traces
  pub inputs : (p : ℕ) → p < length sys.flow.nodes → way_of sys.flow p ≡ Batches → IsTraceIn sys state.low state p traces
  pub logged : (p : ℕ) → p < length sys.flow.nodes → way_of sys.flow p ≡ Events
      → HasTraceOutside sys.flow (logged_history sys state p) p (base_of sys state.low state p) traces

-- The engine holds what is left of a state in which every node is failed: it stands for that state but for its traces, and the stamps
-- that it lost, of which it knows as much as a recovery asks.
pub record StandsHeld (sys : System) (running : Running) (records : Option Records) (state : Machine) : Type 0 where
  pub apart : StandsApart sys running records state
  pub down : (p : ℕ) → p < length sys.flow.nodes → is_failed state p ≡ true
  pub traces : KnowsTracesHeld sys state running.traces
  pub lost : (p : ℕ) → policy_of sys.flow p ≡ policy.Full → KnowsLosses sys state p (lost_at running p)

-- What a recovery answers, and what the engine stands for then, where it held what is left of a state: the machine's outcome, and in full
-- the next state, if it read what was put; after a fault of the store, and after damage, the engine holds what it held.
abbrev pub AnswersHeld : System → Machine → Result Stepped EngineFault → Running → Option Records → Type 0
AnswersHeld sys state (Ok stepped) new after = Trusts sys state Recover after → Follows sys state Recover (outcome_of stepped) new after
AnswersHeld sys state (Err fault.StoreFault) new after = IsStepEnabled sys state Recover × StandsHeld sys new after state
AnswersHeld sys state (Err (fault.Damaged id)) new after = (after ≡ None) × IsStepEnabled sys state Recover × StandsHeld sys new after state
AnswersHeld sys state (Err fault.NoMemory) new after = Unit {0}

-- so a recovery does from each state of which the engine held what is left
abbrev pub RecoversHeld : Running → Option Records → Result Stepped EngineFault → Running → Option Records → Type 0
RecoversHeld old before result new after =
    (sys : System) (state : Machine) → StandsHeld sys old before state → AnswersHeld sys state result new after
