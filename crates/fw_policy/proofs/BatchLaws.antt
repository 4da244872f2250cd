-- What inputs offer: how many batches they injected, from the low watermark on, and all once there are no more.
use Rattle.std.proofs.Common.{◌≡◌, ◌⊎◌, ◌↔◌, inl, inr, ℕ, ◌^◌, ◌<◌, ◌≤◌, Bool, true, false, not, ◌&&◌, [], ◌∷◌, refl, sym, ◌∙◌, ap, subst, arith}
use Rattle.std.proofs.Math.Bool.{and-true}
use Rattle.std.proofs.lemmas.Bool.{and_parts, and_from, cases_Bool}
use Rattle.fw_time.specs.declared.stamp.Bounds.{Bounds}
use Rattle.fw_time.specs.Stamp.{Stamp, leq, in_domain}
use Rattle.fw_time.proofs.StampLaws.{leq-trans}
use Rattle.fw_frontier.specs.Frontier.{Within, meet}
use Rattle.fw_frontier.specs.Front.{Front, inside, frontier_of, IsCanonical, IsFrontOf}
use Rattle.fw_frontier.proofs.NamesLaws.{names-same, names-self}
use Rattle.fw_flow.specs.Dataflow.{greatest_number}
use Rattle.fw_model.specs.Choice.{until}
use Rattle.fw_model.proofs.StampLaws.{line-leq, leq-line}
use Rattle.fw_model.proofs.SameInsideLaws.{until-more}
use Rattle.fw_model.proofs.UntilLaws.{numbers, canonical-until, within-until}
use Rattle.fw_model.specs.Offers.{IsBetween}

pub number-in_domain : (k : ℕ) (s : Stamp) → s ≡ k ∷ [] → k < 2 ^ 32 → in_domain numbers s ≡ true
number-in_domain k s e l = ap (in_domain numbers) e ∙ line-leq k greatest_number (omega arith)

-- the one list that names the numbers below
pub until-named : (k : ℕ) (s : Stamp) (f : Front) → s ≡ k ∷ [] → k < 2 ^ 32 → IsFrontOf numbers f (frontier_of numbers (s ∷ [])) → f ≡ until k
until-named k s f e l n =
    names-same numbers f (until k) (frontier_of numbers (until k)) (subst (λ (x : Stamp). IsFrontOf numbers f (frontier_of numbers (x ∷ []))) e n)
    (names-self numbers (until k) (canonical-until k (omega arith)))

within-all : (b : Bounds) (f : Front) → Within (frontier_of b f) (frontier_of b [])
within-all b f t i = and_from (in_domain b t) true (and_parts (in_domain b t) (inside f t) i).0 refl

-- an input offers what it can be restored to and holds the low watermark
pub batches-offered : (low : Front) (n : ℕ) (x : Bool) (f : Front) → n ≤ greatest_number → IsCanonical numbers f
    → (IsBetween numbers low (until n) f ⊎ ((x ≡ true) × (f ≡ [])))
    ↔ ((((k : ℕ) × (k ≤ n) × (f ≡ until k)) ⊎ ((x ≡ true) × (f ≡ []))) × Within (frontier_of numbers low) (frontier_of numbers f))
batches-offered low n x f l c = (
  λ i. elim i [
    | inl j ↦ (inl (within-until n f l c j.1), j.0)
    | inr h ↦ (inr h, subst (λ g. Within (frontier_of numbers low) (frontier_of numbers g)) (sym h.1) (within-all numbers low))
  ],
  λ i. elim i.0 [
    | inl h ↦ inl (i.1, subst (λ g. Within (frontier_of numbers g) (frontier_of numbers (until n))) (sym h.2) (until-more numbers h.0 n h.1))
    | inr h ↦ inr h
  ],
)

-- ---- what is settled and acknowledged

-- what is settled, where a list names what was acknowledged
pub up_to-meet : (b : Bounds) (settled u f : Front) (k : ℕ) → u ≡ until k → IsFrontOf b f (meet (frontier_of b settled) (frontier_of b u))
    → IsFrontOf b f (meet (frontier_of b settled) (frontier_of b (until k)))
up_to-meet b settled u f k e n = subst (λ (v : Front). IsFrontOf b f (meet (frontier_of b settled) (frontier_of b v))) e n

-- all that is settled, where more was acknowledged than there are numbers
pub up_to-all : (settled f : Front) (k : ℕ) → 2 ^ 32 ≤ k → IsCanonical numbers settled → f ≡ settled
    → IsFrontOf numbers f (meet (frontier_of numbers settled) (frontier_of numbers (until k)))
up_to-all settled f k l c e = record {
  canonical = subst (IsCanonical numbers) (sym e) c;
  same = λ t. ap (λ (g : Front). frontier_of numbers g t) e ∙ at t (in_domain numbers t) refl;
}
  where
    beyond : (t : Stamp) → in_domain numbers t ≡ true → leq (k ∷ []) t ≡ false
    beyond t i = elim (cases_Bool (leq (k ∷ []) t)) [
      | inl y ↦ absurd (omega (arith, l, leq-line k greatest_number (leq-trans (k ∷ []) t (greatest_number ∷ []) y i)))
      | inr n ↦ n
    ]

    at : (t : Stamp) (d : Bool) → in_domain numbers t ≡ d
        → (d && inside settled t) ≡ ((d && inside settled t) && (d && (not (leq (k ∷ []) t) && true)))
    at t false i = refl
    at t true i = sym (and-true (inside settled t)) ∙ ap (λ x. inside settled t && (not x && true)) (sym (beyond t i))
