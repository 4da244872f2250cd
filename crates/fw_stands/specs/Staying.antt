-- What a step leaves of each part as it was.
use Rattle.std.specs.Prelude.{◌≡◌, ◌↔◌, ℕ, List, Option}
use Rattle.fw_time.specs.Stamp.{Stamp}
use Rattle.fw_frontier.specs.Front.{Front}
use Rattle.fw_flow.specs.Dataflow.{System}
use Rattle.fw_model.specs.Machine.{Machine, ack_count_of}
use Rattle.fw_border.specs.Sources.{SourceState}
use Rattle.fw_node.specs.declared.node.Node.{Node}
use Rattle.fw_policy.specs.View.{IsLostAt}
use Rattle.fw_progress.specs.declared.traces.Traces.{Traces}
use Rattle.fw_stands.specs.Parts.{IsTableIn, queued, logged, kept_recs, IsSourceOf, IsTraceIn}

-- the table of each node stands for the next state where it stood for this one
abbrev pub KeepsTables : System → Machine → Machine → Type 0
KeepsTables sys state next = (p : ℕ) (table : Option Node) → IsTableIn sys state p table → IsTableIn sys next p table

-- the same messages are queued on each edge
abbrev pub KeepsQueues : System → Machine → Machine → Type 0
KeepsQueues sys state next = (e : ℕ) → queued sys next e ≡ queued sys state e

-- the same messages of each edge are logged
abbrev pub KeepsLogs : System → Machine → Machine → Type 0
KeepsLogs sys state next = (e : ℕ) → logged sys next e ≡ logged sys state e

-- each output has the same bound and the same recs
pub record KeepsOutputs (sys : System) (state next : Machine) : Type 0 where
  pub bound : (o : ℕ) → ack_count_of next o ≡ ack_count_of state o
  pub recs : (o x : ℕ) → kept_recs sys next o x ≡ kept_recs sys state o x

-- each input stands for the next state where it stood for this one
abbrev pub KeepsSources : System → Machine → Machine → Type 0
KeepsSources sys state next = (s : ℕ) (source : SourceState) → IsSourceOf sys state s source → IsSourceOf sys next s source

-- above each floor the traces of each node stand for the next state where they stood for this one
abbrev pub KeepsTraces : System → Machine → Machine → Type 0
KeepsTraces sys state next = (floor : List Front) (p : ℕ) (traces : Traces) → IsTraceIn sys floor state p traces → IsTraceIn sys floor next p traces

-- events at the same stamps are lost of each node
abbrev pub KeepsLost : System → Machine → Machine → Type 0
KeepsLost sys state next = (p : ℕ) (t : Stamp) → IsLostAt sys next p t ↔ IsLostAt sys state p t

-- Queues, logs, outputs, inputs and traces stay as they were.
pub record KeepsAllButTables (sys : System) (state next : Machine) : Type 0 where
  pub queues : KeepsQueues sys state next
  pub logs : KeepsLogs sys state next
  pub outputs : KeepsOutputs sys state next
  pub sources : KeepsSources sys state next
  pub traces : KeepsTraces sys state next
