-- A ledger's table.
use Rattle.std.specs.Prelude.{◌∷◌, [], Bool, List}
use Rattle.std.specs.Ordering.{nat_cmp}
use Rattle.fw_time.specs.Stamp.{Stamp}
use Rattle.fw_time.specs.declared.time.SeqNo.{SeqNo}
use Rattle.fw_bag.specs.Arrivals.{Arrival, recs_of}
use Rattle.fw_totals.specs.declared.ledger.Ledger.{Ledger}
use Rattle.fw_totals.specs.Totals.{HasTotals}
use Rattle.fw_totals.specs.Settling.{IsSettling}

-- The table has what came outside what is settled, the totals of what came inside, and the running totals of all that came.
pub record IsLedger (inside : Stamp → Bool) (ledger : Ledger) (came : List Arrival) : Type 0 where
  pub table : IsSettling (λ (x y : SeqNo). nat_cmp x.0 y.0) (λ (x : SeqNo). x.0 ∷ []) inside ledger.table came
  pub running : HasTotals ledger.running (recs_of came)
