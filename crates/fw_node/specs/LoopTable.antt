-- Which table a node in a loop has after what came.
use Rattle.std.specs.Prelude.{◌≡◌, List}
use Rattle.std.specs.declared.cmp.Ordering.{Ordering}
use Rattle.fw_time.specs.Stamp.{Stamp}
use Rattle.fw_time.specs.declared.time.Nest.{Nest}
use Rattle.fw_bag.specs.Arrivals.{Arrival}
use Rattle.fw_flow.specs.Kind.{Kind}
use Rattle.fw_flow.specs.declared.kind.Kind.TheVariants as kind
use Rattle.fw_flow.specs.Dataflow.{Dataflow, max_of}
use Rattle.fw_node.specs.declared.in_loop.InLoop.{InLoop}
use Rattle.fw_node.specs.declared.in_loop.InLoop.TheVariants as table
use Rattle.fw_node.specs.TimedTable.{IsTimedTable}

-- the table, at times of a loop, is that of a node of the kind to which these came
abbrev pub IsLoopTable : {T : Type 0} → (Nest T → Nest T → Ordering) → (Nest T → Stamp) → Dataflow → InLoop T → Kind → List Arrival → Type 0
IsLoopTable cmp coords flow (table.Here s) k came = IsTimedTable cmp coords s k came
IsLoopTable cmp coords flow (table.Feedback f) (kind.Feedback l) came = f.max ≡ max_of flow l
IsLoopTable cmp coords flow (table.Leave f) (kind.Leave l) came = Unit {0}
IsLoopTable cmp coords flow other k came = ⊥
