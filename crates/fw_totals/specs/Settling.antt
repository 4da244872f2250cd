-- Sums by time outside what is settled, and totals of what is settled.
use Rattle.std.specs.Prelude.{Bool, not, List}
use Rattle.std.specs.declared.cmp.Ordering.{Ordering}
use Rattle.fw_time.specs.Stamp.{Stamp}
use Rattle.fw_bag.specs.Arrivals.{Arrival, recs_of, arrivals_inside, recs_inside, AreTimes}
use Rattle.fw_table.specs.declared.sums.Sums.{Sums}
use Rattle.fw_table.specs.Content.{IsTable}
use Rattle.fw_table.specs.Sums.{HasSums}
use Rattle.fw_totals.specs.declared.settling.Settling.{Settling}
use Rattle.fw_totals.specs.Totals.{HasTotals}

-- what is kept of a time
abbrev pub holds_sums : Sums → List Arrival → Type 0
holds_sums s came = HasSums s.by_key (recs_of came)

-- The table has what came at each time outside what is settled, and the totals of what came inside.
pub record IsSettling {T : Type 0} (cmp : T → T → Ordering) (coords : T → Stamp) (inside : Stamp → Bool) (table : Settling T) (came : List Arrival) : Type 0 where
  pub outside : IsTable cmp coords holds_sums table.by_time (arrivals_inside (λ s. not (inside s)) came)
  pub totals : HasTotals table.settled (recs_inside inside came)
  pub times : AreTimes coords came
