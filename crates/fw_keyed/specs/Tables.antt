-- Which tables the kinds that look at keys have after what came.
use Rattle.std.specs.Prelude.{not, List}
use Rattle.std.specs.declared.cmp.Ordering.{Ordering}
use Rattle.fw_time.specs.Stamp.{Stamp}
use Rattle.fw_bag.specs.Arrivals.{Arrival, recs_of, recs_where}
use Rattle.fw_table.specs.declared.sums.Sums.{Sums}
use Rattle.fw_table.specs.Content.{IsTable}
use Rattle.fw_table.specs.Sums.{HasSums}
use Rattle.fw_keyed.specs.declared.distinct.Distinct.{Distinct}
use Rattle.fw_keyed.specs.declared.distinct.Seen.{Seen}
use Rattle.fw_keyed.specs.declared.join.Join.{Join}
use Rattle.fw_keyed.specs.declared.join.Sides.{Sides}
use Rattle.fw_keyed.specs.declared.sum.Sum.{Sum}
use Rattle.fw_keyed.specs.Seen.{HasSeen}
use Rattle.fw_keyed.specs.Sides.{HasValues, is_left}

-- a distinct has the different recs that came at each time
abbrev pub IsDistinct : {T : Type 0} → (T → T → Ordering) → (T → Stamp) → Distinct T → List Arrival → Type 0
IsDistinct cmp coords table came = IsTable cmp coords (λ (s : Seen) now. HasSeen s.recs (recs_of now)) table.seen came

-- a join has the values of each key that came at each time on each of its sides
abbrev pub IsJoin : {T : Type 0} → (T → T → Ordering) → (T → Stamp) → Join T → List Arrival → Type 0
IsJoin cmp coords table came =
    IsTable cmp coords (λ (s : Sides) now. HasValues s.left (recs_where is_left now) × HasValues s.right (recs_where (λ a. not (is_left a)) now))
    table.sides came

-- a sum has the sum of each key that came at each time
abbrev pub IsSum : {T : Type 0} → (T → T → Ordering) → (T → Stamp) → Sum T → List Arrival → Type 0
IsSum cmp coords table came = IsTable cmp coords (λ (s : Sums) now. HasSums s.by_key (recs_of now)) table.sums came
