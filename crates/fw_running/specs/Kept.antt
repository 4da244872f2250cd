-- What an engine keeps of each edge and node.
use Rattle.std.specs.Prelude.{ℕ, Bool, false, List, [], Option, slice_index_or}
use Rattle.fw_time.specs.Stamp.{Stamp}
use Rattle.fw_flow.specs.declared.event.Message.{Message}
use Rattle.fw_border.specs.Outputs.{OutputState, output_at}
use Rattle.fw_border.specs.Sources.{SourceState, source_at}
use Rattle.fw_node.specs.declared.node.Node.{Node}
use Rattle.fw_rollback.specs.Edges.{on_edge}
use Rattle.fw_rollback.specs.Tables.{table_at}
use Rattle.fw_running.specs.declared.running.Running.{Running}

-- what is kept as pending on edge e
abbrev pub queue_at : Running → ℕ → List Message
queue_at running e = (on_edge running.parts.queues e).messages

-- what is kept of edge e to be sent again
abbrev pub log_at : Running → ℕ → List Message
log_at running e = (on_edge running.parts.logs e).messages

-- the table of node p, if it has one
abbrev pub table_of : Running → ℕ → Option Node
table_of running p = table_at running.parts.tables p

-- what is kept with these tables
abbrev pub with_tables : List (Option Node) → Running → Running
with_tables tables running = record running { parts = record running.parts { tables = tables } }

-- what is kept of input s
abbrev pub source_of : Running → ℕ → SourceState
source_of running s = source_at running.parts.sources s

-- what is kept of output o
abbrev pub output_of : Running → ℕ → OutputState
output_of running o = output_at running.parts.outputs.outputs o

-- which stamps of node p's events were lost in flight
abbrev pub lost_at : Running → ℕ → List Stamp
lost_at running p = slice_index_or running.lost.items p []

-- whether node p is failed
abbrev pub is_down : Running → ℕ → Bool
is_down running p = slice_index_or running.failed.items p false
