-- The first of some copies.
use Rattle.std.proofs.Common.{◌≡◌, ℕ, zero, suc, ◌-◌, ◌<◌, List, ◌∷◌, ap, arith}
use Rattle.fw_bag.specs.declared.rec.Rec.{Rec}
use Rattle.fw_bag.specs.Bag.{copies_before}

-- the first of some copies comes first
pub first_of_copies : (n : ℕ) (r : Rec) (xs : List Rec) → 0 < n → copies_before n r xs ≡ r ∷ copies_before (n - 1) r xs
first_of_copies zero r xs h = absurd (omega arith)
first_of_copies (suc n) r xs h = ap (λ k. r ∷ copies_before k r xs) (omega arith)
