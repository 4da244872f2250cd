-- Which table a node has after its past, of any kind and at any depth of loops.
use Rattle.std.specs.Prelude.{◌≡◌, ℕ, true, ◌||◌, [], ◌∷◌}
use Rattle.std.specs.declared.cmp.Ordering.{Ordering}
use Rattle.std.specs.Ordering.{nat_cmp, ordering_then}
use Rattle.fw_time.specs.Stamp.{Stamp, nest}
use Rattle.fw_time.specs.declared.time.Epoch.{Epoch}
use Rattle.fw_time.specs.declared.time.Nest.{Nest}
use Rattle.fw_flow.specs.Kind.{Kind}
use Rattle.fw_flow.specs.declared.kind.Kind.TheVariants as kind
use Rattle.fw_flow.specs.Dataflow.{Dataflow, is_input_kind, is_output_kind}
use Rattle.fw_totals.specs.Total.{IsTotal}
use Rattle.fw_totals.specs.Ledger.{IsLedger}
use Rattle.fw_numbered.specs.Sequence.{IsSequence}
use Rattle.fw_node.specs.declared.table.Table.{Table}
use Rattle.fw_node.specs.declared.table.Table.TheVariants as table
use Rattle.fw_node.specs.LoopTable.{IsLoopTable}
use Rattle.fw_node.specs.Past.{Past, unsettled, is_taken}
use Rattle.fw_node.specs.TimedTable.{IsTimedTable}

-- the order and the coordinates of epochs
abbrev pub epoch_cmp : Epoch → Epoch → Ordering
epoch_cmp x y = nat_cmp x.0 y.0

abbrev pub epoch_coords : Epoch → Stamp
epoch_coords t = t.0 ∷ []

-- those of a loop's times
abbrev pub nest_cmp : {T : Type 0} → (T → T → Ordering) → Nest T → Nest T → Ordering
nest_cmp cmp x y = ordering_then (cmp x.outer y.outer) (nat_cmp x.counter y.counter)

abbrev pub nest_coords : {T : Type 0} → (T → Stamp) → Nest T → Stamp
nest_coords coords t = nest (coords t.outer) t.counter

-- how many coordinates the stamps of a table's events have
abbrev pub dimension_of : Table → ℕ
dimension_of (table.Loop s) = 2
dimension_of (table.Loop2 s) = 3
dimension_of (table.Loop3 s) = 4
dimension_of (table.Enter2 s) = 2
dimension_of (table.Enter3 s) = 3
dimension_of other = 1

-- The table is that of a node of the kind after its past. Each has what came outside what is settled; of what is settled a
-- total and a ledger have the totals, and a sequence how many messages it sent. A total's running totals are of what is settled or
-- was told, and a ledger's of all that came. A sequence has nothing of what was told.
abbrev pub IsNodeTable : Dataflow → Table → Kind → Past → Type 0
IsNodeTable flow table.Idle k past = (is_input_kind k || is_output_kind k) ≡ true
IsNodeTable flow (table.Outside s) k past = IsTimedTable epoch_cmp epoch_coords s k (unsettled past)
IsNodeTable flow (table.Loop s) k past = IsLoopTable (nest_cmp epoch_cmp) (nest_coords epoch_coords) flow s k (unsettled past)
IsNodeTable flow (table.Loop2 s) k past =
    IsLoopTable (nest_cmp (nest_cmp epoch_cmp)) (nest_coords (nest_coords epoch_coords)) flow s k (unsettled past)
IsNodeTable flow (table.Loop3 s) k past =
    IsLoopTable (nest_cmp (nest_cmp (nest_cmp epoch_cmp))) (nest_coords (nest_coords (nest_coords epoch_coords))) flow s k (unsettled past)
IsNodeTable flow (table.Enter s) (kind.Enter l) past = Unit {0}
IsNodeTable flow (table.Enter2 s) (kind.Enter l) past = Unit {0}
IsNodeTable flow (table.Enter3 s) (kind.Enter l) past = Unit {0}
IsNodeTable flow (table.Total s) kind.Total past = IsTotal past.settled (is_taken past) s past.came
IsNodeTable flow (table.Sequence s) kind.Sequence past = IsSequence (is_taken past) s past.came past.numbered
IsNodeTable flow (table.Ledger s) kind.Ledger past = IsLedger past.settled s past.came
IsNodeTable flow (table.Regroup s) (kind.Regroup n) past = s.size ≡ n
IsNodeTable flow other k past = ⊥
