-- For which states of the machine an engine stands.
use Rattle.std.specs.Prelude.{◌≡◌, ◌↔◌, ℕ, ◌<◌, true, List, Option, length}
use Rattle.std.specs.List.{Contains}
use Rattle.fw_time.specs.Stamp.{Stamp}
use Rattle.fw_flow.specs.declared.kind.Policy.TheVariants as policy
use Rattle.fw_flow.specs.Dataflow.{System, kind_of, policy_of, is_output_kind}
use Rattle.fw_flow.specs.WellFormed.{IsWellFormedSystem}
use Rattle.fw_frontier.specs.Front.{Front}
use Rattle.fw_model.specs.Floors.{IsFloor}
use Rattle.fw_model.specs.Machine.{Machine, events}
use Rattle.fw_model.specs.Reached.{IsReached}
use Rattle.fw_model.specs.Steps.{HasEpoch}
use Rattle.fw_keep.specs.Stored.{Records}
use Rattle.fw_policy.specs.View.{IsLostAt}
use Rattle.fw_progress.specs.declared.traces.Traces.{Traces}
use Rattle.fw_progress.specs.History.{StandsForHistory}
use Rattle.fw_stands.specs.Parts.{IsTableIn, queued, logged, IsOutputOf, IsSourceOf, IsTraceIn}
use Rattle.fw_stands.specs.Entries.{AreBasesOf}
use Rattle.fw_stands.specs.Written.{AreEntriesOf, AreStored, uncollected}
use Rattle.fw_running.specs.declared.running.Running.{Running}
use Rattle.fw_running.specs.Kept.{queue_at, log_at, table_of, source_of, output_of, lost_at}

-- All of an engine but its traces, and the stamps that it lost, stands for a state of the system's machine, over these records of
-- its store.
pub record StandsApart (sys : System) (running : Running) (records : Option Records) (state : Machine) : Type 0 where
  -- the two are of one system, and what both have is alike
  pub flow : running.flow ≡ sys.flow
  pub well_formed : IsWellFormedSystem sys
  pub reached : IsReached sys state
  pub settled : running.progress.settled ≡ state.settled
  pub failed : running.failed.items ≡ state.failed
  pub low : running.parts.low ≡ state.low
  pub epochs : (x : ℕ) → (x < running.epochs) ↔ HasEpoch sys.batches x
  -- what fails
  pub tables : (p : ℕ) → p < length sys.flow.nodes → IsTableIn sys state p (table_of running p)
  pub queues : (e : ℕ) → e < length sys.flow.edges → queue_at running e ≡ queued sys state e
  pub logs : (e : ℕ) → e < length sys.flow.edges → log_at running e ≡ logged sys state e
  -- what does not
  pub outputs : (o : ℕ) → o < length sys.flow.nodes → is_output_kind (kind_of sys.flow o) ≡ true → IsOutputOf sys state o (output_of running o)
  pub sources : (s : ℕ) → s < length sys.flow.nodes → IsSourceOf sys state s (source_of running s)
  pub progress : StandsForHistory sys (events state.history) running.progress
  -- what is written
  pub entries : AreEntriesOf sys state running.parts.keep.entries (uncollected state)
  pub bases : AreBasesOf running.parts.keep.entries running.parts.keep.entries (uncollected state)
  pub stored : AreStored sys state records running.parts.keep.entries (uncollected state)

-- The traces are those of each node above a floor of the state: of a node that takes checkpoints all of them; of another one what
-- happened inside the floor may be missing, and of one that can send again also where it sent.
pub record KnowsTraces (sys : System) (state : Machine) (traces : Traces) : Type 0 where
  pub floor : List Front
  pub above : IsFloor sys state floor
  pub each : (p : ℕ) → p < length sys.flow.nodes → IsTraceIn sys floor state p traces

-- these stamps of each node that logs its events are those at which one of them was lost
abbrev pub KnowsLost : System → Machine → Running → Type 0
KnowsLost sys state running = (p : ℕ) → policy_of sys.flow p ≡ policy.Full → (t : Stamp) → Contains (lost_at running p) t ↔ IsLostAt sys state p t

-- The engine stands for a state of the system's machine, over these records of its store: its traces and the stamps that it lost are
-- those of the state, and so is all else of it.
pub record Stands (sys : System) (running : Running) (records : Option Records) (state : Machine) : Type 0 where
  pub apart : StandsApart sys running records state
  pub traces : KnowsTraces sys state running.traces
  pub lost : KnowsLost sys state running
