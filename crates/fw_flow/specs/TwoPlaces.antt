-- The stamps of causes in their two places, and their order.
use Rattle.std.specs.Prelude.{ℕ, ◌≡◌, ◌≤◌, List, [], ◌∷◌, length, take, Some, nat_eq, slice_index_or}
use Rattle.std.proofs.Common.{ap, arith, subst, refl}
use Rattle.std.proofs.lemmas.List.{length-take}
use Rattle.std.specs.Cmp.{IsPartialOrder, Agrees}
use Rattle.std.specs.Cmp.Lexicographic.{pointwise, slice_cmp, slice_partial_cmp, texts_po, lists_po, lists_agrees}
use Rattle.fw_time.specs.Stamp.{stamp_cmp}

-- the first two stamps, and one without coordinates where there is none
abbrev pub in_two : List (List ℕ) → List (List ℕ)
in_two stamps = slice_index_or stamps 0 [] ∷ slice_index_or stamps 1 [] ∷ []

-- so many stamps are in the places
pub two_at : (n : ℕ) (stamps : List (List ℕ)) → n ≤ 2 → stamps ≡ in_two (take n stamps) → length (take n stamps) ≡ n
two_at n stamps h e = omega (arith, length-take n stamps, ap length e)

-- the order of lists of stamps, by the stamps from the first
pub stamps_po : IsPartialOrder (pointwise (pointwise nat_eq)) (λ ss ts. Some (slice_cmp stamp_cmp ss ts))
stamps_po =
    let a : Agrees (slice_partial_cmp (λ s t. Some (stamp_cmp s t))) (slice_cmp stamp_cmp) = lists_agrees (λ s t. refl) in
    subst (IsPartialOrder (pointwise (pointwise nat_eq))) (λ i ss ts. a ss ts i) (lists_po texts_po)
