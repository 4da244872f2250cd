-- Stamps and frontiers of one coordinate.
use Rattle.std.proofs.Common.{◌≡◌, ℕ, zero, suc, ◌<◌, ◌≤◌, true, false, [], ◌∷◌, sym, ap, ◌∙◌, inl, inr, ◌⊎◌, arith}
use Rattle.std.proofs.lemmas.Bool.{cases_Bool, cases_lt, both_ways}
use Rattle.fw_time.specs.Stamp.{Stamp, leq}
use Rattle.fw_frontier.specs.Frontier.{Frontier, IsFrontier, Within}
use Rattle.fw_flow.specs.Projection.{first_coordinate}
use Rattle.fw_model.proofs.StampLaws.{leq_from, leq_to, in_line, line-leq, leq-line}

-- the numbers of two stamps of one coordinate
pub line-numbers : (g : ℕ) (s u : Stamp) → leq s (g ∷ []) ≡ true → leq u (g ∷ []) ≡ true → leq s u ≡ true → first_coordinate s ≤ first_coordinate u
line-numbers g s u i j l =
    let v = in_line s g i in
    let w = in_line u g j in
    let q = leq-line v.0 w.0 (leq_to (v.0 ∷ []) u _ w.1 (leq_from s _ u v.1 l)) in
    let a = ap first_coordinate v.1 in
    let b = ap first_coordinate w.1 in
    omega arith

-- ---- of two frontiers of one coordinate, one is within the other

Ordered : Frontier → Frontier → ℕ → Type 0
Ordered f g m = ((x : ℕ) → x < m → f (x ∷ []) ≡ true → g (x ∷ []) ≡ true) ⊎ ((x : ℕ) × (f (x ∷ []) ≡ true) × (g (x ∷ []) ≡ false))

ordered_up_to : (f g : Frontier) (m : ℕ) → Ordered f g m
unfolding Ordered
ordered_up_to f g zero = inl (λ x h k. absurd (omega arith))
ordered_up_to f g (suc m) = elim (ordered_up_to f g m) [
  | inr w ↦ inr w
  | inl all ↦ elim (cases_Bool (g (m ∷ []))) [
    | inl k ↦ inl (λ x h j. elim (cases_lt x m) [ inl l ↦ all x l j | inr l ↦ let e : m ≡ x = omega arith in sym (ap (λ y. g (y ∷ [])) e) ∙ k ])
    | inr k ↦ elim (cases_Bool (f (m ∷ []))) [
      | inl j ↦ inr (m, j, k)
      | inr j ↦ inl (λ x h i. elim (cases_lt x m) [ inl l ↦ all x l i | inr l ↦ let e : m ≡ x = omega arith in absurd (both_ways _ j (ap (λ y. f (y ∷ [])) e ∙ i)) ])
    ]
  ]
]

pub one_within : (g : ℕ) (f k : Frontier) → IsFrontier (record { greatest = g ∷ []; sides = false }) f → IsFrontier (record { greatest = g ∷ []; sides = false }) k → Within f k ⊎ Within k f
unfolding Ordered
one_within g f k ff fk = elim (ordered_up_to f k (suc g)) [
  | inl all ↦ inl (λ t i. let v = in_line t g (ff.inside_domain t i) in let l : v.0 ≤ g = v.2 in ap k v.1 ∙ all v.0 (omega arith) (sym (ap f v.1) ∙ i))
  | inr w ↦ inr (λ t i.
      let v = in_line t g (fk.inside_domain t i) in
      ff.closed t (w.0 ∷ []) (fk.inside_domain t i)
      (leq_from (v.0 ∷ []) t _ (sym v.1) (line-leq v.0 w.0 (below v.0 w.0 (sym (ap k v.1) ∙ i) w.2 (ff.inside_domain (w.0 ∷ []) w.1)))) w.1)
]
  where
    below : (y x : ℕ) → k (y ∷ []) ≡ true → k (x ∷ []) ≡ false → leq (x ∷ []) (g ∷ []) ≡ true → y ≤ x
    below y x a b d = elim (cases_lt x y) [
      | inr l ↦ l
      | inl l ↦ absurd (both_ways (k (x ∷ [])) b (fk.closed (x ∷ []) (y ∷ []) d (line-leq x y (omega arith)) a))
    ]
