-- What is left of a node's checkpoints: the one that holds each stamp, and those on which it stands.
use Rattle.std.proofs.Common.{◌≡◌, ◌↔◌, ◌⊎◌, ℕ, Bool, true, false, not, ◌&&◌, ◌||◌, ◌==◌, cond, List, [], ◌∷◌, ◌++◌, refl, sym, ap, subst, ◌∙◌, inl, inr}
use Rattle.std.specs.List.{AllByRecursion, list_any, list_all}
use Rattle.std.proofs.lemmas.Bool.{cases_Bool, and_parts, eqb-true, false_from_ne_true}
use Rattle.fw_lemmas.proofs.Bools.{two_ways}
use Rattle.fw_lemmas.proofs.Each.{each-weaker, each-both, each-append, each-suffix, each-of_all}
use Rattle.fw_frontier.specs.Front.{Front, same_front, is_within}
use Rattle.fw_flow.specs.Dataflow.{System}
use Rattle.fw_model.specs.Machine.{SerialEvent, Write, checkpoint, Stage, in_flight, acknowledged, collected, front_of}
use Rattle.fw_model.specs.Steps.{checkpoint_front, bases_down, stands_on, lies_below, is_forgotten, is_in_flight}
use Rattle.fw_model.specs.Writes.{is_collected, HasOne}
use Rattle.fw_model.proofs.DescentLaws.{implies-at}
use Rattle.fw_model.proofs.GoneLaws.{strictly}
use Rattle.fw_model.proofs.KeptChainLaws.{stage-gone}
use Rattle.fw_model.proofs.StandingLaws.{any-never}
use Rattle.fw_rest.specs.Left.{IsLeftOf, IsEveryLeftOf}
use Rattle.fw_rest.proofs.LinksLeftLaws.{not-strictly}

-- where there is only one such write, each such write is that
the-only : (P : Write → Type 0) (xs : List Write) (only : HasOne P xs) → AllByRecursion (λ x. P x → x ≡ only.one) xs
the-only P xs only =
    let Q : Write → Type 0 = λ x. P x → x ≡ only.one in
    let never : (x : Write) → (P x → ⊥) → P x → x ≡ only.one = λ x n i. absurd (n i) in
    subst (AllByRecursion Q) (sym only.there)
    (each-append Q only.earlier (only.one ∷ only.later) (each-weaker (λ x. P x → ⊥) Q only.earlier never only.none_earlier)
    ((λ i. refl), each-weaker (λ x. P x → ⊥) Q only.later never only.none_later))

-- a write stands on one of its own node
stands-own : (writes : List Write) (y x : Write) → stands_on writes y x ≡ true → x.node ≡ y.node
stands-own writes y x s = elim (cases_Bool (x.node == y.node)) [
  | inl own ↦ eqb-true x.node y.node own
  | inr other ↦
      absurd (two_ways (stands_on writes y x) s
      (ap (λ b. list_any (λ f. list_any (same_front f) (cond b (checkpoint_front x.written) [] ++ [])) (bases_down y.depth y.node y.base writes)) other
      ∙ any-never (bases_down y.depth y.node y.base writes)))
]

-- where not all that stand on a write pass, and none but this one can fail, this one stands on it
only-stands : (writes : List Write) (ok : Write → Bool) (one x : Write) (ys : List Write)
    → AllByRecursion (λ (y : Write). stands_on writes y x ≡ true → ok y ≡ false → y ≡ one) ys
    → list_all (λ (y : Write). not (stands_on writes y x) || ok y) ys ≡ false → stands_on writes one x ≡ true
only-stands writes ok one x [] a e = absurd (two_ways true refl e)
only-stands writes ok one x (y ∷ ys) a e =
    let rest = list_all (λ (z : Write). not (stands_on writes z x) || ok z) ys in
    elim (cases_Bool (stands_on writes y x)) [
      | inr none ↦ only-stands writes ok one x ys a.1 (sym (ap (λ b. (not b || ok y) && rest) none) ∙ e)
      | inl stands ↦ elim (cases_Bool (ok y)) [
        | inl passes ↦
            only-stands writes ok one x ys a.1 (sym (ap (λ b. b && rest) passes) ∙ sym (ap (λ b. (not b || ok y) && rest) stands) ∙ e)
        | inr fails ↦ subst (λ z. stands_on writes z x ≡ true) (a.0 stands fails) stands
      ]
    ]

-- what does not fly and was not collected was acknowledged
far-is : (far : Stage) → is_in_flight far ≡ false → (far ≡ collected → ⊥) → far ≡ acknowledged
far-is in_flight flies n = absurd (two_ways true refl flies)
far-is acknowledged flies n = refl
far-is collected flies n = absurd (n refl)

-- What is known of a write after a collection: it was collected exactly where it is forgotten, it does not fly, and it is a checkpoint, if it
-- is one of node p.
pub record IsSettledOf (sys : System) (low : List Front) (h : List SerialEvent) (p : ℕ) (writes : List Write) (x : Write) : Type 0 where
  pub exact : (x.stage ≡ collected) ↔ (is_forgotten sys low h writes x ≡ true)
  pub landed : is_in_flight x.stage ≡ false
  pub asked : x.node ≡ p → (f : Front) × ((low : List Front) × (x.written ≡ checkpoint f low))

-- what is left was acknowledged
pub left-acknowledged : (sys : System) (low : List Front) (h : List SerialEvent) (p : ℕ) (writes : List Write) (x : Write) → IsSettledOf sys low h p writes x → IsLeftOf p x
    → x.stage ≡ acknowledged
left-acknowledged sys low h p writes x a is = far-is x.stage a.landed (stage-gone x.stage is.left)

-- what was not collected is left
left-of : (p : ℕ) (x : Write) → x.node ≡ p → is_in_flight x.stage ≡ false → (x.stage ≡ collected → ⊥) → IsLeftOf p x
left-of p x at flies n = record { node = at; left = ap (λ s. not (is_collected s)) (far-is x.stage flies n) }

-- one of node p that does not lie below is the one that holds each stamp
above-every : (sys : System) (low : List Front) (h : List SerialEvent) (p : ℕ) (writes : List Write) → front_of low p ≡ [] → (x : Write) → IsSettledOf sys low h p writes x
    → x.node ≡ p → lies_below sys low h x.node x.written ≡ false → IsEveryLeftOf p x
above-every sys low h p writes e x a at above =
    let is = a.asked at in
    let fails : strictly low p is.0 ≡ false = sym (ap (lies_below sys low h p) is.1.1) ∙ sym (ap (λ q. lies_below sys low h q x.written) at) ∙ above in
    let passed = list_all (λ (y : Write). not (stands_on writes y x) || lies_below sys low h y.node y.written) writes in
    record {
      is_left = left-of p x at a.landed (λ gone. two_ways (lies_below sys low h x.node x.written)
          (and_parts (lies_below sys low h x.node x.written) passed (a.exact.0 gone)).0 above);
      low = is.1.0;
      every = is.1.1 ∙ ap (λ f. checkpoint f is.1.0) (not-strictly low p is.0 e fails);
    }

-- and that one does not lie below
every-above : (sys : System) (low : List Front) (h : List SerialEvent) (p : ℕ) → front_of low p ≡ [] → (x : Write) → IsEveryLeftOf p x
    → lies_below sys low h x.node x.written ≡ false
every-above sys low h p e x i =
    ap (λ q. lies_below sys low h q x.written) i.is_left.node ∙ ap (lies_below sys low h p) i.every
    ∙ ap (λ f. is_within [] f && not (is_within f [])) e

-- what is left of node p is that one, and those on which it stands
pub left-stands : (sys : System) (low : List Front) (h : List SerialEvent) (p : ℕ) (writes : List Write) → front_of low p ≡ []
    → AllByRecursion (IsSettledOf sys low h p writes) writes → (only : HasOne (IsEveryLeftOf p) writes)
    → AllByRecursion (λ (x : Write). IsLeftOf p x ↔ (IsEveryLeftOf p x ⊎ (stands_on writes only.one x ≡ true))) writes
left-stands sys low h p writes e settled only =
    each-weaker S (λ (x : Write). IsLeftOf p x ↔ (IsEveryLeftOf p x ⊎ (stands_on writes only.one x ≡ true))) writes (λ x a. (stands x a, stays x a)) settled
  where
    S : Write → Type 0
    S = IsSettledOf sys low h p writes

    below : Write → Bool
    below y = lies_below sys low h y.node y.written

    all : Write → Bool
    all x = list_all (λ (y : Write). not (stands_on writes y x) || below y) writes

    stands : (x : Write) → S x → IsLeftOf p x → IsEveryLeftOf p x ⊎ (stands_on writes only.one x ≡ true)
    stands x a is = elim (cases_Bool (below x)) [
      | inr above ↦ inl (above-every sys low h p writes e x a is.node above)
      | inl lies ↦
          let kept : is_forgotten sys low h writes x ≡ false =
          false_from_ne_true (is_forgotten sys low h writes x) (λ i. stage-gone x.stage is.left (a.exact.1 i)) in
          inr (only-stands writes below only.one x writes
          (each-weaker (λ (y : Write). S y × (IsEveryLeftOf p y → y ≡ only.one)) (λ (y : Write). stands_on writes y x ≡ true → below y ≡ false → y ≡ only.one) writes
          (λ y b s above. b.1 (above-every sys low h p writes e y b.0 (sym (stands-own writes y x s) ∙ is.node) above))
          (each-both S (λ (y : Write). IsEveryLeftOf p y → y ≡ only.one) writes settled (the-only (IsEveryLeftOf p) writes only)))
          (sym (ap (λ b. b && all x) lies) ∙ kept))
    ]

    stays : (x : Write) → S x → IsEveryLeftOf p x ⊎ (stands_on writes only.one x ≡ true) → IsLeftOf p x
    stays x a (inl every) = every.is_left
    stays x a (inr s) =
        left-of p x (stands-own writes only.one x s ∙ only.is_such.is_left.node) a.landed
        (λ gone.
        let passed : all x ≡ true = (and_parts (below x) (all x) (a.exact.0 gone)).1 in
        let ok : Write → Type 0 = λ y. (not (stands_on writes y x) || below y) ≡ true in
        let each : AllByRecursion ok (only.earlier ++ only.one ∷ only.later) =
        subst (AllByRecursion ok) only.there (each-of_all (λ (y : Write). not (stands_on writes y x) || below y) writes passed) in
        two_ways (below only.one)
        (implies-at (stands_on writes only.one x) (below only.one) (each-suffix ok only.earlier (only.one ∷ only.later) each).0 s)
        (every-above sys low h p e only.one only.is_such))
