-- Whether a node offers a cut, as the code asks.
use Rattle.std.proofs.Common.{◌≡◌, ◌↔◌, ℕ, ◌+◌, ◌<◌, Bool, true, false, not, ◌==◌, List, [], ◌∷◌, length, refl, sym, ap, subst, ◌∙◌, inl, inr, arith}
use Rattle.std.specs.List.{AllByRecursion}
use Rattle.std.proofs.lemmas.Bool.{both_ways, cases_lt}
use Rattle.std.proofs.lemmas.Bool.Decides.{nat_tests}
use Rattle.fw_frontier.specs.Frontier.{Within}
use Rattle.fw_frontier.specs.Front.{Front, frontier_of, IsCanonical}
use Rattle.fw_flow.specs.declared.choice.Cut.{Cut}
use Rattle.fw_flow.specs.declared.choice.Cut.TheVariants.{Present, At}
use Rattle.fw_flow.specs.declared.choice.Offer.{Offer}
use Rattle.fw_flow.specs.declared.choice.Offered.{Offered}
use Rattle.fw_flow.specs.declared.choice.Offered.TheVariants as form
use Rattle.fw_flow.specs.declared.choice.Recorded.{Recorded}
use Rattle.fw_flow.specs.Dataflow.{Dataflow, bounds_of}
use Rattle.fw_model.specs.Offers.{AreOffersOf, IsListed, IsOffered, IsOfferedFront, IsRangeOf, IsRecordOf, can_stay, listed_records, offered_by, offered_range}
use Rattle.fw_choosing.specs.Choices.{IsBare}

-- a node that can stay offers its state
pub stays-some : (flow : Dataflow) (offers : List Offer) (p : ℕ) (r : Bool) → r ≡ can_stay offers p → r ≡ true → (cut : Cut) × IsOffered flow offers p cut
stays-some flow offers p r is e = (Present, sym is ∙ e)

-- a node that cannot stay is bare, where no frontier is offered
pub bare-fronts : (flow : Dataflow) (offers : List Offer) (p : ℕ) (r : Bool) (x : Offered) → r ≡ can_stay offers p → r ≡ false → x ≡ offered_by offers p
    → ((f : Front) → IsCanonical (bounds_of flow p) f → IsOfferedFront (bounds_of flow p) x f → ⊥) → IsBare flow offers p
bare-fronts flow offers p r x is e same none = at
  where
    at : (cut : Cut) → IsOffered flow offers p cut → ⊥
    at Present o = both_ways r e (is ∙ o)
    at (At f) o = none f o.0 (subst (λ y. IsOfferedFront (bounds_of flow p) y f) (sym same) o.1)

-- a frontier that is offered
pub front-some : (flow : Dataflow) (offers : List Offer) (p : ℕ) (x : Offered) (f : Front) → x ≡ offered_by offers p → IsCanonical (bounds_of flow p) f → IsOfferedFront (bounds_of flow p) x f
    → (cut : Cut) × IsOffered flow offers p cut
front-some flow offers p x f same canonical o = (At f, (canonical, subst (λ y. IsOfferedFront (bounds_of flow p) y f) same o))

-- ---- records

pub listed-bare : (flow : Dataflow) (offers : List Offer) (p : ℕ) (r b : Bool) (x : Offered) (rs s : List Recorded) → r ≡ can_stay offers p → r ≡ false → x ≡ offered_by offers p → x ≡ form.Listed rs → s ≡ rs
    → b ≡ (length s == 0) → b ≡ true → IsBare flow offers p
listed-bare flow offers p r b x rs [] is e same listed slice empty all =
    bare-fronts flow offers p r x is e same (λ f c o.
    let h : IsOfferedFront (bounds_of flow p) (form.Listed rs) f = subst (λ y. IsOfferedFront (bounds_of flow p) y f) listed o in
    let g : IsListed f [] = subst (IsListed f) (sym slice) h in absurd g)
listed-bare flow offers p r b x rs (y ∷ s) is e same listed slice empty all =
    let some : (length (y ∷ s) == 0) ≡ false = grind (arith, nat_tests) in
    let h : false ≡ true = sym some ∙ sym empty ∙ all in absurd (cc)

pub listed-some : (flow : Dataflow) (offers : List Offer) (p : ℕ) (b : Bool) (x : Offered) (rs s : List Recorded) → AreOffersOf flow offers → p < length flow.nodes → x ≡ offered_by offers p → x ≡ form.Listed rs → s ≡ rs
    → b ≡ (length s == 0) → b ≡ false → (cut : Cut) × IsOffered flow offers p cut
listed-some flow offers p b x rs [] a l same listed slice empty none = let h : true ≡ false = sym empty ∙ none in absurd (cc)
listed-some flow offers p b x rs (y ∷ s) a l same listed slice empty none =
    let whole : y ∷ s ≡ listed_records (offered_by offers p) = slice ∙ sym (ap listed_records (sym same ∙ listed)) in
    let first = (subst (AllByRecursion (IsRecordOf flow p)) (sym whole) (a.records p l)).0 in
    front-some flow offers p x y.front same first.front
    (subst (λ z. IsOfferedFront (bounds_of flow p) z y.front) (sym listed) (subst (IsListed y.front) slice (inl refl)))

-- ---- ranges

ends-of : (flow : Dataflow) (offers : List Offer) (p : ℕ) (x : Offered) → AreOffersOf flow offers → p < length flow.nodes → x ≡ offered_by offers p → IsRangeOf (bounds_of flow p) (offered_range x)
ends-of flow offers p x a l same = subst (λ y. IsRangeOf (bounds_of flow p) (offered_range y)) (sym same) (a.range p l)

pub between-bare : (flow : Dataflow) (offers : List Offer) (p : ℕ) (r s : Bool) (x : Offered) (least greatest : Front) → AreOffersOf flow offers → p < length flow.nodes → r ≡ can_stay offers p → r ≡ false → x ≡ offered_by offers p
    → x ≡ form.Between least greatest → (IsCanonical (bounds_of flow p) greatest → (s ≡ true) ↔ Within (frontier_of (bounds_of flow p) least) (frontier_of (bounds_of flow p) greatest)) → not s ≡ true → IsBare flow offers p
between-bare flow offers p r true x least greatest a l is e same form test outside = absurd (both_ways false refl outside)
between-bare flow offers p r false x least greatest a l is e same form test outside =
    let ends : IsCanonical (bounds_of flow p) least × IsCanonical (bounds_of flow p) greatest = subst (λ y. IsRangeOf (bounds_of flow p) (offered_range y)) form (ends-of flow offers p x a l same) in
    bare-fronts flow offers p r x is e same (λ f c o.
    let h = subst (λ y. IsOfferedFront (bounds_of flow p) y f) form o in
    both_ways false refl ((test ends.1).1 (λ t i. h.1 t (h.0 t i))))

pub between-some : (flow : Dataflow) (offers : List Offer) (p : ℕ) (s : Bool) (x : Offered) (least greatest : Front) → AreOffersOf flow offers → p < length flow.nodes → x ≡ offered_by offers p
    → x ≡ form.Between least greatest → (IsCanonical (bounds_of flow p) greatest → (s ≡ true) ↔ Within (frontier_of (bounds_of flow p) least) (frontier_of (bounds_of flow p) greatest)) → not s ≡ false → (cut : Cut) × IsOffered flow offers p cut
between-some flow offers p false x least greatest a l same form test inside = let h : true ≡ false = inside in absurd (cc)
between-some flow offers p true x least greatest a l same form test inside =
    let ends : IsCanonical (bounds_of flow p) least × IsCanonical (bounds_of flow p) greatest = subst (λ y. IsRangeOf (bounds_of flow p) (offered_range y)) form (ends-of flow offers p x a l same) in
    front-some flow offers p x least same ends.0 (subst (λ y. IsOfferedFront (bounds_of flow p) y least) (sym form) (λ t i. i, (test ends.1).0 refl))

-- ---- batches

pub batches-bare : (flow : Dataflow) (offers : List Offer) (p : ℕ) (r s exhausted : Bool) (x : Offered) (least greatest : Front) → AreOffersOf flow offers → p < length flow.nodes → r ≡ can_stay offers p → r ≡ false → x ≡ offered_by offers p
    → x ≡ form.Batches least greatest exhausted → exhausted ≡ false
    → (IsCanonical (bounds_of flow p) greatest → (s ≡ true) ↔ Within (frontier_of (bounds_of flow p) least) (frontier_of (bounds_of flow p) greatest)) → not s ≡ true → IsBare flow offers p
batches-bare flow offers p r true exhausted x least greatest a l is e same form more test outside = absurd (both_ways false refl outside)
batches-bare flow offers p r false exhausted x least greatest a l is e same form more test outside =
    let ends : IsCanonical (bounds_of flow p) least × IsCanonical (bounds_of flow p) greatest = subst (λ y. IsRangeOf (bounds_of flow p) (offered_range y)) form (ends-of flow offers p x a l same) in
    bare-fronts flow offers p r x is e same (λ f c o.
    elim (subst (λ y. IsOfferedFront (bounds_of flow p) y f) form o) [
      | inl h ↦ both_ways false refl ((test ends.1).1 (λ t i. h.1 t (h.0 t i)))
      | inr h ↦ both_ways exhausted more h.0
    ])

pub batches-some : (flow : Dataflow) (offers : List Offer) (p : ℕ) (s exhausted : Bool) (x : Offered) (least greatest : Front) → AreOffersOf flow offers → p < length flow.nodes → x ≡ offered_by offers p
    → x ≡ form.Batches least greatest exhausted → (IsCanonical (bounds_of flow p) greatest → (s ≡ true) ↔ Within (frontier_of (bounds_of flow p) least) (frontier_of (bounds_of flow p) greatest)) → not s ≡ false → (cut : Cut) × IsOffered flow offers p cut
batches-some flow offers p false exhausted x least greatest a l same form test inside = let h : true ≡ false = inside in absurd (cc)
batches-some flow offers p true exhausted x least greatest a l same form test inside =
    let ends : IsCanonical (bounds_of flow p) least × IsCanonical (bounds_of flow p) greatest = subst (λ y. IsRangeOf (bounds_of flow p) (offered_range y)) form (ends-of flow offers p x a l same) in
    front-some flow offers p x least same ends.0 (subst (λ y. IsOfferedFront (bounds_of flow p) y least) (sym form) (inl (λ t i. i, (test ends.1).0 refl)))

pub exhausted-some : (flow : Dataflow) (offers : List Offer) (p : ℕ) (exhausted : Bool) (x : Offered) (least greatest : Front) → x ≡ offered_by offers p → x ≡ form.Batches least greatest exhausted → exhausted ≡ true
    → (cut : Cut) × IsOffered flow offers p cut
exhausted-some flow offers p exhausted x least greatest same form more =
    front-some flow offers p x [] same tt (subst (λ y. IsOfferedFront (bounds_of flow p) y []) (sym form) (inr (more, refl)))

-- ---- all nodes

pub some-more : (flow : Dataflow) (offers : List Offer) (n q : ℕ) → q ≡ n → ((p : ℕ) → p < n → (cut : Cut) × IsOffered flow offers p cut) → (cut : Cut) × IsOffered flow offers q cut
    → (p : ℕ) → p < n + 1 → (cut : Cut) × IsOffered flow offers p cut
some-more flow offers n q same before here p below = elim (cases_lt p n) [
  | inl l ↦ before p l
  | inr l ↦ let e : q ≡ p = omega (arith, same, l, below) in subst (λ x. (cut : Cut) × IsOffered flow offers x cut) e here
]

-- the first node that is bare
pub bare-first : (flow : Dataflow) (offers : List Offer) (n q : ℕ) → q ≡ n → n < length flow.nodes → ((p : ℕ) → p < n → (cut : Cut) × IsOffered flow offers p cut) → IsBare flow offers q
    → (q < length flow.nodes) × IsBare flow offers q × ((p : ℕ) → p < q → IsBare flow offers p → ⊥)
bare-first flow offers n q same there before bare = (
  omega (arith, same, there),
  bare,
  λ p below none. let some = before p (omega (arith, same, below)) in none some.0 some.1,
)
