-- What an engine keeps at first.
use Rattle.std.specs.Prelude.{◌≡◌, ℕ, ◌<◌, false, List, [], length, map, replicate, Option, None, IsSomeAnd}
use Rattle.fw_bag.specs.declared.rec.Rec.{Rec}
use Rattle.fw_frontier.specs.Front.{Front}
use Rattle.fw_flow.specs.declared.restoring.Restoring.{Restoring}
use Rattle.fw_flow.specs.declared.restoring.Restoring.TheVariants.{Batches, Bound}
use Rattle.fw_flow.specs.Dataflow.{Dataflow, batches_of_nodes}
use Rattle.fw_flow.specs.Restoring.{way_of}
use Rattle.fw_node.specs.declared.node.Node.{Node}
use Rattle.fw_border.specs.Outputs.{new_output}
use Rattle.fw_border.specs.Sources.{unused_source}
use Rattle.fw_rollback.specs.declared.parts.Parts.{Parts}
use Rattle.fw_rollback.specs.Edges.{nothing_there}
use Rattle.fw_rollback.specs.Restored.{IsNew}
use Rattle.fw_rollback.specs.Tables.{table_at}

-- the table that node p has at first: none at an input and an output, else one to which nothing came
abbrev pub IsFirstTable : Dataflow → ℕ → Restoring → Option Node → Type 0
IsFirstTable flow p Batches table = table ≡ None
IsFirstTable flow p Bound table = table ≡ None
IsFirstTable flow p way table = IsSomeAnd table (IsNew flow p)

-- the first n nodes have the tables that they have at first
abbrev pub AreFirstTables : Dataflow → ℕ → List (Option Node) → Type 0
AreFirstTables flow n tables = (p : ℕ) → p < n → IsFirstTable flow p (way_of flow p) (table_at tables p)

-- The parts are those of a flow with these batches and low watermarks, where nothing has happened.
pub record AreNew (flow : Dataflow) (batches : List (ℕ × List (List Rec))) (watermarks : List Front) (parts : Parts) : Type 0 where
  pub tables : AreFirstTables flow (length flow.nodes) parts.tables
  pub queues : parts.queues ≡ replicate (length flow.edges) nothing_there
  pub logs : parts.logs ≡ replicate (length flow.edges) nothing_there
  pub keep : parts.keep ≡ record { entries = []; next = 0; waiting = []; refused = false; shared = false }
  pub sources : parts.sources ≡ map unused_source (batches_of_nodes flow batches)
  pub outputs : parts.outputs ≡ record { outputs = replicate (length flow.nodes) new_output; refused = false }
  pub low : parts.low ≡ watermarks
