-- Frontiers of numbers, or of epochs: all, and the numbers below one.
use Rattle.std.proofs.Common.{◌≡◌, ◌⊎◌, inl, inr, ℕ, ◌<◌, ◌≤◌, Bool, true, false, not, ◌&&◌, ◌||◌, [], ◌∷◌, refl, sym, ap, subst, arith}
use Rattle.std.proofs.lemmas.Bool.{and_parts, and_from, cases_Bool, cases_lt, or_left, or_right}
use Rattle.fw_lemmas.proofs.Bools.{two_ways}
use Rattle.fw_time.specs.declared.stamp.Bounds.{Bounds}
use Rattle.fw_time.specs.Stamp.{Stamp, leq, in_domain}
use Rattle.fw_time.proofs.StampLaws.{leq-refl}
use Rattle.fw_frontier.specs.Frontier.{Within}
use Rattle.fw_frontier.specs.Front.{Front, frontier_of, IsCanonical}
use Rattle.fw_flow.specs.Dataflow.{greatest_number}
use Rattle.fw_model.specs.Choice.{until}
use Rattle.fw_model.proofs.StampLaws.{in_line, line-leq, leq-line}

-- the bounds of numbers and of epochs
abbrev pub numbers : Bounds
numbers = record { greatest = greatest_number ∷ []; sides = false }

pub canonical-until : (k : ℕ) → k ≤ greatest_number → IsCanonical numbers (until k)
canonical-until k l = (record { in_the_domain = line-leq k greatest_number l; ascending = tt; incomparable = tt }, tt)

-- a frontier of numbers is all, or the numbers below one
pub canonical-line : (f : Front) → IsCanonical numbers f → (f ≡ []) ⊎ ((k : ℕ) × (f ≡ until k))
canonical-line [] c = inl refl
canonical-line (o ∷ []) c = let i = in_line o greatest_number c.0.in_the_domain in inr (i.0, ap (λ (s : Stamp). s ∷ []) i.1)
canonical-line (o ∷ q ∷ os) c =
    let i = in_line o greatest_number c.0.in_the_domain in
    let j = in_line q greatest_number c.1.0.in_the_domain in
    let apart : (leq (i.0 ∷ []) (j.0 ∷ []) || leq (j.0 ∷ []) (i.0 ∷ [])) ≡ false =
    subst (λ s. (leq (i.0 ∷ []) s || leq s (i.0 ∷ [])) ≡ false) j.1 (subst (λ s. (leq s q || leq q s) ≡ false) i.1 (c.0.incomparable).0) in
    absurd (elim (cases_lt i.0 j.0) [
      | inl l ↦ two_ways (leq (i.0 ∷ []) (j.0 ∷ []) || leq (j.0 ∷ []) (i.0 ∷ [])) (or_left (leq (i.0 ∷ []) (j.0 ∷ [])) (leq (j.0 ∷ []) (i.0 ∷ [])) (line-leq i.0 j.0 (omega arith))) apart
      | inr l ↦ two_ways (leq (i.0 ∷ []) (j.0 ∷ []) || leq (j.0 ∷ []) (i.0 ∷ [])) (or_right (leq (i.0 ∷ []) (j.0 ∷ [])) (leq (j.0 ∷ []) (i.0 ∷ [])) (line-leq j.0 i.0 l)) apart
    ])

-- one within the numbers below n is the numbers below one that is not greater
pub within-until : (n : ℕ) (f : Front) → n ≤ greatest_number → IsCanonical numbers f → Within (frontier_of numbers f) (frontier_of numbers (until n))
    → (k : ℕ) × (k ≤ n) × (f ≡ until k)
within-until n f l c w = elim (canonical-line f c) [
  | inl e ↦ absurd (out (w (n ∷ []) (subst (λ g. frontier_of numbers g (n ∷ []) ≡ true) (sym e) (and_from (in_domain numbers (n ∷ [])) true here refl))))
  | inr i ↦ elim (cases_lt n i.0) [
    | inl m ↦ absurd (out (w (n ∷ []) (subst (λ g. frontier_of numbers g (n ∷ []) ≡ true) (sym i.1)
        (and_from (in_domain numbers (n ∷ [])) (not (leq (i.0 ∷ []) (n ∷ [])) && true) here (below i.0 m)))))
    | inr m ↦ (i.0, m, i.1)
  ]
]
  where
    here : in_domain numbers (n ∷ []) ≡ true
    here = line-leq n greatest_number l

    out : frontier_of numbers (until n) (n ∷ []) ≡ true → ⊥
    out k = let a = and_parts (in_domain numbers (n ∷ [])) (not (leq (n ∷ []) (n ∷ [])) && true) k in gone (leq (n ∷ []) (n ∷ [])) (leq-refl (n ∷ [])) a.1
      where
        gone : (b : Bool) → b ≡ true → (not b && true) ≡ true → ⊥
        gone true e k = cc
        gone false e k = cc

    below : (k : ℕ) → n < k → (not (leq (k ∷ []) (n ∷ [])) && true) ≡ true
    below k m = elim (cases_Bool (leq (k ∷ []) (n ∷ []))) [
      | inl y ↦ absurd (omega (arith, m, leq-line k n y))
      | inr y ↦ ap (λ b. not b && true) y
    ]
