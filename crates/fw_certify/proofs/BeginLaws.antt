-- The greatest cut of a node, if there is one.
use Rattle.std.proofs.Common.{◌≡◌, ◌⊎◌, ℕ, ◌<◌, Bool, true, false, cond, List, [], ◌∷◌, length, reverse, None, Some, refl, sym, ap, subst, ◌∙◌, inl, inr}
use Rattle.std.specs.List.{AllByRecursion, find, list_all}
use Rattle.std.specs.Option.{option_or}
use Rattle.std.specs.Prelude.{Option}
use Rattle.std.proofs.lemmas.Bool.{and_parts, and_from, both_ways}
use Rattle.std.proofs.lemmas.Grind.{reverse_onto}
use Rattle.std.proofs.lemmas.List.Folds.{find-append}
use Rattle.fw_lemmas.proofs.Each.{each-both, each-of_all, all-of_each, each-weaker}
use Rattle.fw_time.specs.Stamp.{in_domain}
use Rattle.fw_time.specs.declared.stamp.Bounds.{Bounds}
use Rattle.fw_frontier.specs.Frontier.{Within}
use Rattle.fw_frontier.specs.Front.{Front, inside, frontier_of, is_within, IsCanonical, IsFrontOf}
use Rattle.fw_frontier.proofs.NamesLaws.{is_within-holds, within-is}
use Rattle.fw_flow.specs.declared.choice.Choice.{Choice}
use Rattle.fw_flow.specs.declared.choice.Cut.{Cut}
use Rattle.fw_flow.specs.declared.choice.Cut.TheVariants.{Present, At}
use Rattle.fw_flow.specs.declared.choice.Offer.{Offer}
use Rattle.fw_flow.specs.declared.choice.Offered.TheVariants as form
use Rattle.fw_flow.specs.declared.choice.Recorded.{Recorded}
use Rattle.fw_flow.specs.Dataflow.{Dataflow, bounds_of}
use Rattle.fw_model.specs.Machine.{front_of}
use Rattle.fw_model.specs.Choice.{cut_of, IsCutWithin, IsCanonicalCut}
use Rattle.fw_model.specs.Covers.{set_of}
use Rattle.fw_model.specs.Offers.{IsListed, IsOffered, can_stay, offered_by}
use Rattle.fw_model.specs.Lowerings.{choice_of}
use Rattle.fw_model.specs.Certificates.{IsBeginning, IsGreatestOffered}
use Rattle.fw_certify.specs.Checked.{AreCanonicalFronts, IsGreatestFront}
use Rattle.fw_certify.proofs.LeftLaws.{listed-each, listed-found}

-- ---- the last record that passes a test

back-step : (p : Recorded → Bool) (r : Recorded) (rs : List Recorded) → find p (reverse (r ∷ rs)) ≡ option_or (find p (reverse rs)) (cond (p r) (Some r) None)
back-step p r rs = ap (find p) (reverse_onto rs r []) ∙ find-append p (reverse rs) (r ∷ [])

found-either : (o : Option Recorded) (b : Bool) (r x : Recorded) → option_or o (cond b (Some r) None) ≡ Some x → (o ≡ Some x) ⊎ ((b ≡ true) × (r ≡ x))
found-either None true r x e = inr (refl, cc)
found-either None false r x e = absurd (cc)
found-either (Some y) b r x e = inl e

found-neither : (o : Option Recorded) (b : Bool) (r : Recorded) → option_or o (cond b (Some r) None) ≡ None → (o ≡ None) × (b ≡ false)
found-neither None true r e = absurd (cc)
found-neither None false r e = (refl, refl)
found-neither (Some y) b r e = absurd (cc)

-- what a search from the last record back finds is one of them, and passes
pub found_back : (p : Recorded → Bool) (rs : List Recorded) (x : Recorded) → find p (reverse rs) ≡ Some x → IsListed x.front rs × (p x ≡ true)
found_back p [] x e = absurd (cc)
found_back p (r ∷ rs) x e = elim (found-either (find p (reverse rs)) (p r) r x (sym (back-step p r rs) ∙ e)) [
  | inl h ↦ (let k : IsListed x.front rs × (p x ≡ true) = found_back p rs x h in (inr k.0, k.1))
  | inr h ↦ (inl (ap (λ (y : Recorded). y.front) h.1), subst (λ y. p y ≡ true) h.1 h.0)
]

-- and where it finds none, none passes
pub none_back : (p : Recorded → Bool) (rs : List Recorded) → find p (reverse rs) ≡ None → AllByRecursion (λ r. p r ≡ false) rs
none_back p [] e = tt
none_back p (r ∷ rs) e =
    let k : (find p (reverse rs) ≡ None) × (p r ≡ false) = found-neither (find p (reverse rs)) (p r) r (sym (back-step p r rs) ∙ e) in
    (k.1, none_back p rs k.0)

-- ---- records

-- a record's frontier that holds those of all is the greatest
pub listed-greatest : (b : Bounds) (rs : List Recorded) (f : Front) → AreCanonicalFronts b (form.Listed rs) → IsListed f rs → list_all (λ r. is_within r.front f) rs ≡ true
    → IsGreatestFront b (form.Listed rs) f
listed-greatest b rs f canonical listed all = record {
  canonical = listed-found (IsCanonical b) f rs listed canonical;
  is_one = listed;
  greatest = λ g c l. listed-found (λ h. Within (frontier_of b h) (frontier_of b f)) g rs l
      (each-weaker (λ r. is_within r.front f ≡ true) (λ r. Within (frontier_of b r.front) (frontier_of b f)) rs (λ r e. is_within-holds b r.front f e) (each-of_all (λ r. is_within r.front f) rs all));
}

-- and where none does, there is no greatest
pub listed-none : (b : Bounds) (rs : List Recorded) (f : Front) → AreCanonicalFronts b (form.Listed rs) → AllByRecursion (λ r. list_all (λ s. is_within s.front r.front) rs ≡ false) rs
    → IsGreatestFront b (form.Listed rs) f → ⊥
listed-none b rs f canonical none k =
    both_ways (list_all (λ s. is_within s.front f) rs) (listed-found (λ h. list_all (λ s. is_within s.front h) rs ≡ false) f rs k.is_one none)
    (all-of_each (λ s. is_within s.front f) rs
    (each-weaker (λ r. IsCanonical b r.front × IsListed r.front rs) (λ r. is_within r.front f ≡ true) rs
    (λ r j. within-is b r.front f k.canonical (k.greatest r.front j.0 j.1))
    (each-both (λ r. IsCanonical b r.front) (λ r. IsListed r.front rs) rs canonical (listed-each rs))))

-- ---- ranges

pub between-greatest : (b : Bounds) (least greatest : Front) → IsCanonical b greatest → Within (frontier_of b least) (frontier_of b greatest)
    → IsGreatestFront b (form.Between least greatest) greatest
between-greatest b least greatest c w = record { canonical = c; is_one = (w, λ t k. k); greatest = λ g d m. m.1 }

pub between-none : (b : Bounds) (least greatest f : Front) → (Within (frontier_of b least) (frontier_of b greatest) → ⊥) → IsGreatestFront b (form.Between least greatest) f → ⊥
between-none b least greatest f n k = n (λ t i. k.is_one.1 t (k.is_one.0 t i))

pub batches-greatest : (b : Bounds) (least greatest f : Front) (exhausted : Bool) → exhausted ≡ false → IsGreatestFront b (form.Between least greatest) f
    → IsGreatestFront b (form.Batches least greatest exhausted) f
batches-greatest b least greatest f exhausted e k = record {
  canonical = k.canonical;
  is_one = inl k.is_one;
  greatest = λ g c m. elim m [ inl i ↦ k.greatest g c i | inr j ↦ absurd (both_ways exhausted e j.0) ];
}

pub batches-none : (b : Bounds) (least greatest f : Front) (exhausted : Bool) → exhausted ≡ false → ((g : Front) → IsGreatestFront b (form.Between least greatest) g → ⊥)
    → IsGreatestFront b (form.Batches least greatest exhausted) f → ⊥
batches-none b least greatest f exhausted e n k = elim k.is_one [
  | inl i ↦ n f (record { canonical = k.canonical; is_one = i; greatest = λ g c m. k.greatest g c (inl m) })
  | inr j ↦ both_ways exhausted e j.0
]

pub batches-all : (b : Bounds) (least greatest f : Front) (exhausted : Bool) → exhausted ≡ true → f ≡ [] → IsGreatestFront b (form.Batches least greatest exhausted) f
batches-all b least greatest f exhausted e is = subst (IsGreatestFront b (form.Batches least greatest exhausted)) (sym is) (record {
  canonical = tt;
  is_one = inr (e, refl);
  greatest = λ g c m t k. and_from (in_domain b t) true (and_parts (in_domain b t) (inside g t) k).0 refl;
})

-- ---- cuts

pub present-greatest : (flow : Dataflow) (offers : List Offer) (p : ℕ) → can_stay offers p ≡ true → IsGreatestOffered flow (IsOffered flow offers) p Present
present-greatest flow offers p e = record { offered = e; greatest = λ x o. tt }

pub front-greatest : (flow : Dataflow) (offers : List Offer) (p : ℕ) (f : Front) → can_stay offers p ≡ false → IsGreatestFront (bounds_of flow p) (offered_by offers p) f
    → IsGreatestOffered flow (IsOffered flow offers) p (At f)
front-greatest flow offers p f e k = record { offered = (k.canonical, k.is_one); greatest = at }
  where
    at : (x : Cut) → IsOffered flow offers p x → IsCutWithin flow p x (At f)
    at Present o = absurd (both_ways (can_stay offers p) e o)
    at (At g) o = k.greatest g o.0 o.1

pub front-none : (flow : Dataflow) (offers : List Offer) (p : ℕ) (cut : Cut) → can_stay offers p ≡ false → ((f : Front) → IsGreatestFront (bounds_of flow p) (offered_by offers p) f → ⊥)
    → IsGreatestOffered flow (IsOffered flow offers) p cut → ⊥
front-none flow offers p Present e n k = both_ways (can_stay offers p) e k.offered
front-none flow offers p (At f) e n k = n f (record { canonical = k.offered.0; is_one = k.offered.1; greatest = λ g c i. k.greatest (At g) (c, i) })

-- ---- the beginning

pub none-begins : (flow : Dataflow) (offers : List Offer) (p q : ℕ) (start : Choice) → q ≡ p → p < length flow.nodes → ((cut : Cut) → IsGreatestOffered flow (IsOffered flow offers) q cut → ⊥)
    → IsBeginning flow (IsOffered flow offers) start → ⊥
none-begins flow offers p q start e l n k = n (cut_of start p) (subst (λ x. IsGreatestOffered flow (IsOffered flow offers) x (cut_of start p)) (sym e) (k.cuts p l))

greatest-canonical : (flow : Dataflow) (offers : List Offer) (p : ℕ) (cut : Cut) → IsGreatestOffered flow (IsOffered flow offers) p cut → IsCanonicalCut (bounds_of flow p) cut
greatest-canonical flow offers p Present k = tt
greatest-canonical flow offers p (At f) k = k.offered.0

pub all-canonical : (flow : Dataflow) (offers : List Offer) (cuts : List Cut) (n : ℕ) → ((p : ℕ) → p < n → IsGreatestOffered flow (IsOffered flow offers) p (cut_of (choice_of cuts []) p))
    → (p : ℕ) → p < n → IsCanonicalCut (bounds_of flow p) (cut_of (choice_of cuts []) p)
all-canonical flow offers cuts n h p l = greatest-canonical flow offers p (cut_of (choice_of cuts []) p) (h p l)

pub begins : (flow : Dataflow) (offers : List Offer) (cuts : List Cut) (notices : List Front) → length cuts ≡ length flow.nodes → length notices ≡ length flow.nodes
    → ((p : ℕ) → p < length flow.nodes → IsGreatestOffered flow (IsOffered flow offers) p (cut_of (choice_of cuts []) p))
    → ((p : ℕ) → p < length flow.nodes → IsFrontOf (bounds_of flow p) (front_of notices p) (set_of flow p (cut_of (choice_of cuts []) p)))
    → IsBeginning flow (IsOffered flow offers) (choice_of cuts notices)
begins flow offers cuts notices one each greatest kept = record { one_cut_each = one; one_notice_each = each; cuts = greatest; notices = kept }
