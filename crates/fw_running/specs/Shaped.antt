-- What is true of what an engine keeps, whatever it stands for: what its bodies need to be safe, also after a recovery that read
-- other bytes than were put.
use Rattle.std.specs.Prelude.{◌≡◌, ℕ, ◌<◌, false, length, IfSome}
use Rattle.std.specs.List.{AllByRecursion, Contains}
use Rattle.fw_flow.specs.WellFormed.{IsWellFormed}
use Rattle.fw_model.specs.Machine.{AreCanonical}
use Rattle.fw_keep.specs.declared.entry.Entry.{Entry}
use Rattle.fw_node.specs.NodeOf.{IsNodeOf}
pub use Rattle.fw_policy.specs.Shaped.{IsWrittenOf}
use Rattle.fw_progress.specs.Progress.{IsOfFlow}
use Rattle.fw_progress.specs.Trace.{HaveLists}
pub use Rattle.fw_rollback.specs.Edges.{IsOnEdge}
use Rattle.fw_rollback.specs.Restored.{AreOfFlow}
use Rattle.fw_running.specs.declared.running.Running.{Running}
use Rattle.fw_running.specs.ReadyState.{ReadyState}
use Rattle.fw_running.specs.Kept.{queue_at, log_at, table_of}
use Rattle.fw_running.specs.Ready.{CanDeliver, IsOwing, HasGrown, CanAcknowledge, CanInject}

-- the lists have one for each node and edge
pub record HasOneEach (running : Running) : Type 0 where
  pub parts : AreOfFlow running.flow running.parts
  pub sources : length running.parts.sources ≡ length running.flow.nodes
  pub outputs : length running.parts.outputs.outputs ≡ length running.flow.nodes
  pub low : length running.parts.low ≡ length running.flow.nodes
  pub failed : length running.failed.items ≡ length running.flow.nodes
  pub lost : length running.lost.items ≡ length running.flow.nodes

-- each table is of its node, so that what the node sends can be sent
abbrev pub AreTablesOf : Running → Type 0
AreTablesOf running = (p : ℕ) → p < length running.flow.nodes → IfSome (table_of running p) (IsNodeOf running.flow p)

-- Among the places that are kept are all where something may be done.
pub record IsReady (running : Running) (ready : ReadyState) : Type 0 where
  pub edges : (e : ℕ) → CanDeliver running e → Contains ready.edges e
  pub owing : (p : ℕ) → IsOwing running p → Contains ready.owing p
  pub growing : (p : ℕ) → HasGrown running p → Contains ready.growing p
  pub outputs : (o : ℕ) → CanAcknowledge running o → Contains ready.outputs o
  pub inputs : (s : ℕ) → CanInject running s → Contains ready.inputs s

-- What is kept fits the flow.
pub record IsShaped (running : Running) : Type 0 where
  pub well_formed : IsWellFormed running.flow
  pub one_each : HasOneEach running
  pub progress : IsOfFlow running.flow running.progress
  pub traces : HaveLists running.flow running.traces
  pub low : AreCanonical running.flow running.parts.low
  pub tables : AreTablesOf running
  pub queues : (e : ℕ) → AllByRecursion (IsOnEdge running.flow e) (queue_at running e)
  pub logs : (e : ℕ) → AllByRecursion (IsOnEdge running.flow e) (log_at running e)
  pub entries : AllByRecursion (λ (entry : Entry). IsWrittenOf running.flow entry.node entry.written) running.parts.keep.entries
  pub live : running.progress.refused ≡ false
  pub traced : running.traces.refused ≡ false
  pub ready : IsReady running running.ready
