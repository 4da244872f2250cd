-- Recs at numbers.
use Rattle.std.specs.Prelude.{ℕ, ◌+◌, ◌-◌, ◌^◌, nat_le, if◌then◌else◌, List, [], ◌∷◌}
use Rattle.fw_time.specs.Stamp.{Stamp}
use Rattle.fw_bag.specs.declared.rec.Rec.{Rec}

-- the recs at the numbers from n on
abbrev pub at_numbers : ℕ → List Rec → List (Stamp × Rec)
at_numbers n [] = []
at_numbers n (r ∷ rs) = (n ∷ [], r) ∷ at_numbers (n + 1) rs

-- the recs at the numbers from n on, none past the greatest number
abbrev pub recs_numbered : ℕ → List Rec → List (Stamp × Rec)
recs_numbered n [] = []
recs_numbered n (r ∷ rs) = if nat_le n (2 ^ 32 - 1) then (n ∷ [], r) ∷ recs_numbered (n + 1) rs else []
