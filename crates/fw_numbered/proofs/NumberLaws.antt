-- Recs at numbers, one more.
use Rattle.std.proofs.Common.{◌≡◌, ℕ, ◌+◌, ◌-◌, ◌^◌, ◌≤◌, ◌<◌, ◌++◌, true, false, cond, List, [], ◌∷◌, length, refl, sym, ap, ◌∙◌, arith}
use Rattle.std.specs.Prelude.{nat_le}
use Rattle.std.proofs.lemmas.Bool.Decides.{nat_tests}
use Rattle.std.proofs.lemmas.List.{append_assoc}
use Rattle.fw_time.specs.Stamp.{Stamp}
use Rattle.fw_bag.specs.declared.rec.Rec.{Rec}
use Rattle.fw_numbered.specs.Numbers.{at_numbers, recs_numbered}

next_number : (n m : ℕ) → n + 1 + m ≡ n + (m + 1)
next_number n m = omega arith

-- a rec that is put last has the number after all others
pub at_numbers-last : (n : ℕ) (rs : List Rec) (r : Rec) (m : ℕ) → n + length rs ≡ m → at_numbers n (rs ++ r ∷ []) ≡ at_numbers n rs ++ (m ∷ [], r) ∷ []
at_numbers-last n [] r m h = let e : n ≡ m = omega arith in ap (λ k. (k ∷ [], r) ∷ []) e
at_numbers-last n (x ∷ rs) r m h = ap (λ (xs : List (Stamp × Rec)). (n ∷ [], x) ∷ xs) (at_numbers-last (n + 1) rs r m (omega arith))

-- and is the first of those to come
pub numbered_step : (n m : ℕ) (rs : List Rec) (r : Rec) (rest later : List Rec) → n + length rs ≡ m → m < 2 ^ 32 → rest ≡ r ∷ later
    → at_numbers n (rs ++ r ∷ []) ++ recs_numbered (m + 1) later ≡ at_numbers n rs ++ recs_numbered m rest
numbered_step n m rs r rest later h l e =
    let t : nat_le m (2 ^ 32 - 1) ≡ true = grind (arith, nat_tests) in
    ap (λ xs. xs ++ recs_numbered (m + 1) later) (at_numbers-last n rs r m h)
    ∙ append_assoc (at_numbers n rs) ((m ∷ [], r) ∷ []) (recs_numbered (m + 1) later)
    ∙ sym (ap (λ xs. at_numbers n rs ++ xs) (ap (recs_numbered m) e ∙ ap (λ b. cond b ((m ∷ [], r) ∷ recs_numbered (m + 1) later) []) t))

-- past the greatest number there are none
pub numbered_none : (m : ℕ) (rs : List Rec) → 2 ^ 32 ≤ m → recs_numbered m rs ≡ []
numbered_none m [] l = refl
numbered_none m (r ∷ rs) l =
    let f : nat_le m (2 ^ 32 - 1) ≡ false = grind (arith, nat_tests) in
    ap (λ b. cond b ((m ∷ [], r) ∷ recs_numbered (m + 1) rs) []) f
