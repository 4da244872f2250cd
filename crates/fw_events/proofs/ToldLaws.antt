-- What is sent, one rec after the other.
use Rattle.std.proofs.Common.{◌≡◌, ℕ, zero, suc, ◌+◌, ◌≤◌, List, [], ◌∷◌, ◌++◌, length, take, Option, Some, None, sym, ap, ◌∙◌, refl, arith}
use Rattle.std.specs.Prelude.{option_to_list, slice_get}
use Rattle.fw_time.specs.Stamp.{Stamp}
use Rattle.fw_bag.specs.declared.rec.Rec.{Rec}

-- at most one rec is the first of them
pub few-recs : (xs : List (Stamp × Rec)) (at : Option (Stamp × Rec)) → at ≡ slice_get xs 0 → length xs ≤ 1 → option_to_list at ≡ xs
few-recs [] at is l = ap option_to_list is
few-recs (x ∷ []) at is l = ap option_to_list is
few-recs (x ∷ (y ∷ xs)) at is l = absurd (omega arith)

take-suc : (xs : List (Stamp × Rec)) (i : ℕ) (x : Stamp × Rec) → slice_get xs i ≡ Some x → take (suc i) xs ≡ take i xs ++ x ∷ []
take-suc [] i x k = absurd (cc k)
take-suc (y ∷ xs) zero x k = let is : y ≡ x = cc k in ap (λ z. z ∷ []) is
take-suc (y ∷ xs) (suc i) x k = ap (λ zs. y ∷ zs) (take-suc xs i x k)

take-past : (xs : List (Stamp × Rec)) (i : ℕ) → slice_get xs i ≡ None → take (suc i) xs ≡ take i xs
take-past [] zero k = refl
take-past [] (suc i) k = refl
take-past (y ∷ xs) zero k = absurd (cc k)
take-past (y ∷ xs) (suc i) k = ap (λ zs. y ∷ zs) (take-past xs i k)

-- the rec at the next place is put last
pub rec-next : (xs : List (Stamp × Rec)) (i : ℕ) (x : Stamp × Rec) (now new : List (Stamp × Rec)) → Some x ≡ slice_get xs i → now ≡ take i xs → new ≡ now ++ x ∷ []
    → new ≡ take (i + 1) xs
rec-next xs i x now new at is put =
    let one : suc i ≡ i + 1 = omega arith in
    put ∙ ap (λ zs. zs ++ x ∷ []) is ∙ sym (take-suc xs i x (sym at)) ∙ ap (λ n. take n xs) one

-- past the last place none is
pub rec-past : (xs : List (Stamp × Rec)) (i : ℕ) (now new : List (Stamp × Rec)) → None ≡ slice_get xs i → now ≡ take i xs → new ≡ now → new ≡ take (i + 1) xs
rec-past xs i now new at is put =
    let one : suc i ≡ i + 1 = omega arith in
    put ∙ is ∙ sym (take-past xs i (sym at)) ∙ ap (λ n. take n xs) one
