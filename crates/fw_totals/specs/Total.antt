-- A total's table.
use Rattle.std.specs.Prelude.{◌∷◌, [], Bool, List}
use Rattle.std.specs.Ordering.{nat_cmp}
use Rattle.fw_time.specs.Stamp.{Stamp}
use Rattle.fw_time.specs.declared.time.Epoch.{Epoch}
use Rattle.fw_bag.specs.Arrivals.{Arrival, recs_inside}
use Rattle.fw_totals.specs.declared.total.Total.{Total}
use Rattle.fw_totals.specs.Totals.{HasTotals}
use Rattle.fw_totals.specs.Settling.{IsSettling}

-- The table has what came outside what is settled, the totals of what came inside, and the running totals of what was taken in.
pub record IsTotal (inside taken : Stamp → Bool) (total : Total) (came : List Arrival) : Type 0 where
  pub table : IsSettling (λ (x y : Epoch). nat_cmp x.0 y.0) (λ (x : Epoch). x.0 ∷ []) inside total.table came
  pub running : HasTotals total.running (recs_inside taken came)
