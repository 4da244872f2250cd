-- For the proofs: frontiers of numbers, and bags by number.
use Rattle.std.specs.Prelude.{ℕ, Bool, true, nat_lt, List, map, Option, Some, None}
use Rattle.fw_bag.specs.Bag.{BagState}
use Rattle.fw_bag.specs.declared.rec.Rec.{Rec}

-- whether a number is below the bound, if there is one
abbrev pub is_number_below : Option ℕ → ℕ → Bool
is_number_below None x = true
is_number_below (Some k) x = nat_lt x k

-- the recs of bags by number
abbrev pub recs_by_number : List (ℕ × BagState) → List (ℕ × List Rec)
recs_by_number bags = map (λ e. (e.0, e.1.recs)) bags
