-- A sequence's table.
use Rattle.std.specs.Prelude.{◌≡◌, ℕ, ◌∷◌, [], Bool, not, List}
use Rattle.std.specs.Ordering.{nat_cmp}
use Rattle.fw_time.specs.Stamp.{Stamp}
use Rattle.fw_time.specs.declared.time.Epoch.{Epoch}
use Rattle.fw_bag.specs.Arrivals.{Arrival, arrivals_inside, recs_of}
use Rattle.fw_bag.specs.Keyed.{sorted_recs}
use Rattle.fw_table.specs.Content.{IsTable}
use Rattle.fw_numbered.specs.declared.sequence.Held.{Held}
use Rattle.fw_numbered.specs.declared.sequence.Sequence.{Sequence}

-- what is kept of an epoch
abbrev pub holds_bag : Held → List Arrival → Type 0
holds_bag h came = h.bag.recs ≡ sorted_recs (recs_of came)

-- The table has what came at each epoch that is not gone, and the next number.
pub record IsSequence (gone : Stamp → Bool) (sequence : Sequence) (came : List Arrival) (n : ℕ) : Type 0 where
  pub waiting : IsTable (λ (x y : Epoch). nat_cmp x.0 y.0) (λ (x : Epoch). x.0 ∷ []) holds_bag sequence.held (arrivals_inside (λ s. not (gone s)) came)
  pub next : sequence.next ≡ n
