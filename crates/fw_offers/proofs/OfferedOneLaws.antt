-- Whether a frontier is one of those that are offered, as the code asks.
use Rattle.std.proofs.Common.{◌≡◌, ◌↔◌, ℕ, zero, suc, ◌<◌, ◌≤◌, Bool, true, false, List, [], ◌∷◌, length, get_or, take, refl, sym, ap, subst, ◌∙◌, inl, inr, arith}
use Rattle.std.specs.List.{AllByRecursion}
use Rattle.std.proofs.lemmas.Bool.{both_ways}
use Rattle.std.proofs.lemmas.List.{take_all}
use Rattle.fw_time.specs.declared.stamp.Bounds.{Bounds}
use Rattle.fw_frontier.specs.Frontier.{Within}
use Rattle.fw_frontier.specs.Front.{Front, frontier_of, IsCanonical}
use Rattle.fw_flow.specs.declared.choice.Offered.{Offered}
use Rattle.fw_flow.specs.declared.choice.Offered.TheVariants as form
use Rattle.fw_flow.specs.declared.choice.Recorded.{Recorded}
use Rattle.fw_model.specs.Offers.{IsBetween, IsListed, IsOfferedFront, IsRangeOf, offered_range}
use Rattle.fw_model.proofs.OfferLaws.{not_listed}

pub listed-here : (f : Front) (rs : List Recorded) (i : ℕ) (r : Recorded) → i < length rs → r ≡ get_or rs i r → r.front ≡ f → IsListed f rs
listed-here f [] i r l is e = absurd (omega arith)
listed-here f (x ∷ rs) zero r l is e = inl (ap (λ (y : Recorded). y.front) (sym is) ∙ e)
listed-here f (x ∷ rs) (suc i) r l is e = inr (listed-here f rs i r (omega arith) is e)

pub not_listed-all : (f : Front) (rs : List Recorded) (i : ℕ) → length rs ≤ i → AllByRecursion (λ r. r.front ≡ f → ⊥) (take i rs) → (false ≡ true) ↔ IsListed f rs
not_listed-all f rs i l none = (λ h. absurd (cc), λ o. absurd (not_listed rs f o (subst (AllByRecursion (λ r. r.front ≡ f → ⊥)) (take_all i rs l) none)))

pub listed-one : (b : Bounds) (x : Offered) (f : Front) (rs s : List Recorded) (r : Bool) → x ≡ form.Listed rs → s ≡ rs → ((r ≡ true) ↔ IsListed f s) → (r ≡ true) ↔ IsOfferedFront b x f
listed-one b x f rs s r e is k =
    let same : IsListed f s ≡ IsOfferedFront b x f = ap (IsListed f) is ∙ ap (λ y. IsOfferedFront b y f) (sym e) in
    subst (λ T. (r ≡ true) ↔ T) same k

pub between-one : (b : Bounds) (x : Offered) (f least greatest : Front) (r : Bool) → x ≡ form.Between least greatest → IsRangeOf b (offered_range x) → IsCanonical b f
    → ((c : Bounds) → IsCanonical c f → IsCanonical c greatest → (r ≡ true) ↔ IsBetween c least greatest f) → (r ≡ true) ↔ IsOfferedFront b x f
between-one b x f least greatest r e fronts canonical k =
    let ends : IsRangeOf b (offered_range (form.Between least greatest)) = subst (λ y. IsRangeOf b (offered_range y)) e fronts in
    subst (λ y. (r ≡ true) ↔ IsOfferedFront b y f) (sym e) (k b canonical ends.1)

-- of batches, a frontier that is not all, or where the source is not exhausted
pub batches-one : (b : Bounds) (x : Offered) (f least greatest : Front) (exhausted r : Bool) → x ≡ form.Batches least greatest exhausted → IsRangeOf b (offered_range x) → IsCanonical b f
    → (exhausted ≡ true → f ≡ [] → ⊥)
    → ((c : Bounds) → IsCanonical c f → IsCanonical c greatest → (r ≡ true) ↔ IsBetween c least greatest f) → (r ≡ true) ↔ IsOfferedFront b x f
batches-one b x f least greatest exhausted r e fronts canonical not_all k =
    let ends : IsRangeOf b (offered_range (form.Batches least greatest exhausted)) = subst (λ y. IsRangeOf b (offered_range y)) e fronts in
    let test = k b canonical ends.1 in
    subst (λ y. (r ≡ true) ↔ IsOfferedFront b y f) (sym e) ((λ h. inl (test.0 h)), (λ o. elim o [ inl m ↦ test.1 m | inr a ↦ absurd (not_all a.0 a.1) ]))

pub batches-have_all : (b : Bounds) (x : Offered) (f least greatest : Front) (exhausted : Bool) → x ≡ form.Batches least greatest exhausted → exhausted ≡ true → f ≡ []
    → (true ≡ true) ↔ IsOfferedFront b x f
batches-have_all b x f least greatest exhausted e k is = (λ h. subst (λ y. IsOfferedFront b y f) (sym e) (inr (k, is)), λ o. refl)

pub not_between : (b : Bounds) (least greatest f : Front) (r : Bool) → r ≡ false → ((r ≡ true) ↔ Within (frontier_of b least) (frontier_of b f)) → (false ≡ true) ↔ IsBetween b least greatest f
not_between b least greatest f r e k = (λ h. absurd (cc), λ m. absurd (both_ways r e (k.1 m.0)))

pub is_between : (b : Bounds) (least greatest f : Front) (r s : Bool) → r ≡ true → ((r ≡ true) ↔ Within (frontier_of b least) (frontier_of b f))
    → ((s ≡ true) ↔ Within (frontier_of b f) (frontier_of b greatest)) → (s ≡ true) ↔ IsBetween b least greatest f
is_between b least greatest f r s e k h = (λ m. (k.0 e, h.0 m), λ m. h.1 m.1)
