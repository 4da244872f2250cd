-- Which table a node has after what came, where its kind is at any times.
use Rattle.std.specs.Prelude.{◌≡◌, ℕ, ◌<◌, List}
use Rattle.std.specs.declared.cmp.Ordering.{Ordering}
use Rattle.fw_time.specs.Stamp.{Stamp}
use Rattle.fw_bag.specs.Arrivals.{Arrival}
use Rattle.fw_flow.specs.Kind.{Kind}
use Rattle.fw_flow.specs.declared.kind.Kind.TheVariants as kind
use Rattle.fw_keyed.specs.Sides.{AreOfTwo}
use Rattle.fw_keyed.specs.Tables.{IsDistinct, IsJoin, IsSum}
use Rattle.fw_node.specs.declared.at_time.AtTime.{AtTime}
use Rattle.fw_node.specs.declared.at_time.AtTime.TheVariants as table

-- the table, at times of one type, is that of a node of the kind to which these came
abbrev pub IsTimedTable : {T : Type 0} → (T → T → Ordering) → (T → Stamp) → AtTime T → Kind → List Arrival → Type 0
IsTimedTable cmp coords (table.Select s) (kind.Select selection within) came = s.selection ≡ selection
IsTimedTable cmp coords (table.Concat s) (kind.Concat within) came = Unit {0}
IsTimedTable cmp coords (table.Distinct s) (kind.Distinct within) came = IsDistinct cmp coords s came
IsTimedTable cmp coords (table.Join s) (kind.Join within) came = IsJoin cmp coords s came × AreOfTwo came
IsTimedTable cmp coords (table.Sum s) (kind.Sum within) came = IsSum cmp coords s came
IsTimedTable cmp coords other k came = ⊥

-- a node of the kind may have an in-edge at this place: of a join the place is 0 or 1
abbrev pub IsSideOf : Kind → ℕ → Type 0
IsSideOf (kind.Join within) side = side < 2
IsSideOf k side = Unit {0}
