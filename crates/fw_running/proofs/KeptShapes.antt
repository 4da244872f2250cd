-- What is kept fits the flow after a change of parts, progress, traces and places.
use Rattle.std.specs.Prelude.{◌≡◌, ℕ, ◌<◌, false, List, length, Option, IfSome}
use Rattle.std.specs.List.{AllByRecursion}
use Rattle.std.proofs.Common.{refl, sym, ap, subst, ◌∙◌}
use Rattle.fw_flow.specs.Dataflow.{Dataflow}
use Rattle.fw_edge.specs.Messages.{MessagesState}
use Rattle.fw_keep.specs.declared.entry.Entry.{Entry}
use Rattle.fw_keep.specs.Catalogue.{KeepState}
use Rattle.fw_model.specs.Machine.{AreCanonical}
use Rattle.fw_node.specs.declared.node.Node.{Node}
use Rattle.fw_node.specs.NodeOf.{IsNodeOf}
use Rattle.fw_progress.specs.declared.traces.Traces.{Traces}
use Rattle.fw_progress.specs.Progress.{IsOfFlow, Standing}
use Rattle.fw_progress.specs.Trace.{HaveLists}
use Rattle.fw_rollback.specs.declared.parts.Parts.{Parts}
use Rattle.fw_rollback.specs.Edges.{on_edge}
use Rattle.fw_rollback.specs.Tables.{table_at}
use Rattle.fw_running.specs.declared.running.Running.{Running}
use Rattle.fw_running.specs.Logging.{with_keep}
use Rattle.fw_running.specs.ReadyState.{ReadyState}
use Rattle.fw_running.specs.Shaped.{IsOnEdge, IsReady, IsShaped, IsWrittenOf}

-- ---- the parts by themselves

-- there is a table for each node, and those that are there are of their nodes
abbrev pub DoTablesFit : Dataflow → List (Option Node) → Type 0
DoTablesFit flow tables =
    (length tables ≡ length flow.nodes) × ((p : ℕ) → p < length flow.nodes → IfSome (table_at tables p) (IsNodeOf flow p))

-- there are messages for each edge, and they are of it
abbrev pub DoMessagesFit : Dataflow → List MessagesState → Type 0
DoMessagesFit flow all =
    (length all ≡ length flow.edges) × ((e : ℕ) → AllByRecursion (IsOnEdge flow e) (on_edge all e).messages)

-- what is written is of its node
abbrev pub DoEntriesFit : Dataflow → List Entry → Type 0
DoEntriesFit flow entries = AllByRecursion (λ (entry : Entry). IsWrittenOf flow entry.node entry.written) entries

-- progress is of the flow, and was not refused
abbrev pub DoesProgressFit : Dataflow → Standing → Type 0
DoesProgressFit flow progress = IsOfFlow flow progress × (progress.refused ≡ false)

-- the traces are of the flow, and were not refused
abbrev pub DoTracesFit : Dataflow → Traces → Type 0
DoTracesFit flow traces = HaveLists flow traces × (traces.refused ≡ false)

-- each of these fits as it is
pub tables-fit : (old : Running) → IsShaped old → DoTablesFit old.flow old.parts.tables
tables-fit old s = (s.one_each.parts.tables, s.tables)

pub queues-fit : (old : Running) → IsShaped old → DoMessagesFit old.flow old.parts.queues
queues-fit old s = (s.one_each.parts.queues, s.queues)

pub logs-fit : (old : Running) → IsShaped old → DoMessagesFit old.flow old.parts.logs
logs-fit old s = (s.one_each.parts.logs, s.logs)

pub progress-fits : (old : Running) → IsShaped old → DoesProgressFit old.flow old.progress
progress-fits old s = (s.progress, s.live)

pub traces-fit : (old : Running) → IsShaped old → DoTracesFit old.flow old.traces
traces-fit old s = (s.traces, s.traced)

-- ---- what is kept

-- what is kept with other parts, progress, traces and places
abbrev pub changed : Running → Parts → Standing → Traces → ReadyState → Running
changed old parts progress traces ready = record old { parts = parts; progress = progress; traces = traces; ready = ready }

-- it fits the flow, where each of these does and the low watermarks stay
pub shaped-changed : (old : Running) (parts : Parts) (progress : Standing) (traces : Traces) (ready : ReadyState) → IsShaped old
    → DoTablesFit old.flow parts.tables → DoMessagesFit old.flow parts.queues → DoMessagesFit old.flow parts.logs → DoEntriesFit old.flow parts.keep.entries
    → length parts.sources ≡ length old.flow.nodes → length parts.outputs.outputs ≡ length old.flow.nodes → parts.low ≡ old.parts.low
    → DoesProgressFit old.flow progress → DoTracesFit old.flow traces
    → IsReady (changed old parts progress traces ready) ready → IsShaped (changed old parts progress traces ready)
shaped-changed old parts progress traces ready s tables queues logs entries sources outputs low stands lists places = record {
  well_formed = s.well_formed;
  one_each = record {
    parts = record { tables = tables.0; queues = queues.0; logs = logs.0 };
    sources = sources;
    outputs = outputs;
    low = ap length low ∙ s.one_each.low;
    failed = s.one_each.failed;
    lost = s.one_each.lost;
  };
  progress = stands.0;
  traces = lists.0;
  low = subst (AreCanonical old.flow) (sym low) s.low;
  tables = tables.1;
  queues = queues.1;
  logs = logs.1;
  entries = entries;
  live = stands.1;
  traced = lists.1;
  ready = places;
}

-- so it does with other progress, traces and places alone
pub shaped-standing : (old : Running) (progress : Standing) (traces : Traces) (ready : ReadyState) → IsShaped old
    → DoesProgressFit old.flow progress → DoTracesFit old.flow traces
    → IsReady (changed old old.parts progress traces ready) ready → IsShaped (changed old old.parts progress traces ready)
shaped-standing old progress traces ready s =
    shaped-changed old old.parts progress traces ready s (tables-fit old s) (queues-fit old s) (logs-fit old s) s.entries s.one_each.sources s.one_each.outputs refl

-- and with other parts, among the same places
pub shaped-parts : (old : Running) (parts : Parts) → IsShaped old
    → DoTablesFit old.flow parts.tables → DoMessagesFit old.flow parts.queues → DoMessagesFit old.flow parts.logs → DoEntriesFit old.flow parts.keep.entries
    → length parts.sources ≡ length old.flow.nodes → length parts.outputs.outputs ≡ length old.flow.nodes → parts.low ≡ old.parts.low
    → IsReady (record old { parts = parts }) old.ready → IsShaped (record old { parts = parts })
shaped-parts old parts s tables queues logs entries sources outputs low =
    shaped-changed old parts old.progress old.traces old.ready s tables queues logs entries sources outputs low (progress-fits old s) (traces-fit old s)

-- what is kept with another catalogue fits the flow, where this does
pub shaped-keep : (old : Running) (keep : KeepState) → IsShaped old → DoEntriesFit old.flow keep.entries → IsShaped (with_keep keep old)
shaped-keep old keep s a =
    shaped-parts old (record old.parts { keep = keep }) s (tables-fit old s) (queues-fit old s) (logs-fit old s) a s.one_each.sources s.one_each.outputs refl
    (record { edges = s.ready.edges; owing = s.ready.owing; growing = s.ready.growing; outputs = s.ready.outputs; inputs = s.ready.inputs })
