-- Where the descent starts.
use Rattle.std.proofs.Common.{◌≡◌, ◌≢◌, ℕ, zero, suc, ◌+◌, ◌<◌, ◌≤◌, Bool, true, false, List, [], ◌∷◌, ◌++◌, length, take, get_or, ◌-◌, ◌==◌, Option, Some, None, refl, sym, ap, subst, ◌∙◌, inl, inr, arith}
use Rattle.std.specs.List.{AllByRecursion}
use Rattle.std.proofs.lemmas.Bool.{eqb-false}
use Rattle.std.proofs.lemmas.List.{drop_all}
use Rattle.fw_lemmas.proofs.Lists.{split_at}
use Rattle.fw_time.specs.declared.stamp.Bounds.{Bounds}
use Rattle.fw_frontier.specs.Frontier.{Frontier}
use Rattle.fw_frontier.specs.Front.{Front, IsCanonical, IsFrontOf}
use Rattle.fw_flow.specs.declared.choice.Cut.{Cut}
use Rattle.fw_flow.specs.declared.choice.Cut.TheVariants.{Present, At}
use Rattle.fw_flow.specs.declared.choice.Recorded.{Recorded}
use Rattle.fw_flow.specs.declared.choice.Offer.{Offer}
use Rattle.fw_flow.specs.declared.choice.Offered.{Offered}
use Rattle.fw_flow.specs.declared.choice.Offered.TheVariants as form
use Rattle.fw_flow.specs.Dataflow.{Dataflow, bounds_of}
use Rattle.fw_model.specs.Machine.{front_of}
use Rattle.fw_model.specs.Choice.{cut_of, IsCutWithin}
use Rattle.fw_model.specs.Covers.{set_of}
use Rattle.fw_model.specs.Offers.{IsListed, IsBetween, IsOfferedFront, IsOffered, Ascend, IsRangeOf, IsRecordOf, can_stay, offered_by, offered_range, records_of, range_of, AreOffersOf}
use Rattle.fw_model.specs.Lowerings.{choice_of}
use Rattle.fw_offers.specs.Sides.{has_all}
use Rattle.fw_monitor.specs.Descent.{EnclosesConsistent, IsGreatest}
use Rattle.fw_model.proofs.OfferLaws.{below_last, listed-there, offered-between, listed-offered, offered-listed}
use Rattle.fw_model.proofs.InclusionLaws.{set-monotone}
use Rattle.fw_offers.proofs.FrontLaws.{all_is_everything, within_everything}

pub greatest_all : (flow : Dataflow) (offers : List Offer) (p : ℕ) (r s : Bool) (f : Front) → r ≡ false → r ≡ can_stay offers p → s ≡ true → s ≡ has_all (offered_by offers p) → f ≡ []
    → IsGreatest flow offers p (At f)
greatest_all flow offers p r s f e is all has same =
    subst (λ g. IsGreatest flow offers p (At g)) (sym same) (record { canonical = tt; largest = λ asc x o. at x o })
  where
    top : (x : Offered) → has_all x ≡ true → IsOfferedFront (bounds_of flow p) x []
    top (form.Listed records) k = absurd (cc)
    top (form.Between least greatest) k = absurd (cc)
    top (form.Batches least greatest exhausted) k = inr (k, refl)

    at : (x : Cut) → IsOffered flow offers p x → IsOffered flow offers p (At []) × IsCutWithin flow p x (At [])
    at Present o = let k = sym e ∙ is ∙ o in absurd (cc)
    at (At g) o = ((tt, top (offered_by offers p) (sym has ∙ all)), λ t k. ap (λ (f : Frontier). f t) (all_is_everything (bounds_of flow p)) ∙ within_everything (bounds_of flow p) g t k)

-- the frontier lies between the two, if there are two
IsWithinEnds : Bounds → Option (Front × Front) → Front → Type 0
IsWithinEnds b None g = ⊥
IsWithinEnds b (Some ends) g = IsBetween b ends.0 ends.1 g

-- where all is not on top, what is offered lies in the range
in_range : (b : Bounds) (x : Offered) (least greatest g : Front) → offered_range x ≡ Some (least, greatest) → has_all x ≡ false → IsOfferedFront b x g → IsBetween b least greatest g
unfolding IsWithinEnds
in_range b (form.Listed records) least greatest g e none i = absurd (cc)
in_range b (form.Between low high) least greatest g e none i = subst (λ ends. IsWithinEnds b ends g) e i
in_range b (form.Batches low high exhausted) least greatest g e none i = elim i [
  | inl j ↦ subst (λ ends. IsWithinEnds b ends g) e j
  | inr j ↦ let k = sym none ∙ j.0 in absurd (cc)
]

pub greatest_between : (flow : Dataflow) (offers : List Offer) (p : ℕ) (r s : Bool) (greatest f : Front) → AreOffersOf flow offers → p < length flow.nodes → r ≡ false → r ≡ can_stay offers p
    → s ≡ false → s ≡ has_all (offered_by offers p) → (least : Front) × (range_of offers p ≡ Some (least, greatest)) → f ≡ greatest → IsGreatest flow offers p (At f)
greatest_between flow offers p r s greatest f a l e is none has ends same =
    subst (λ g. IsGreatest flow offers p (At g)) (sym same) (record { canonical = canonical; largest = λ asc x o. at x o })
  where
    canonical : IsCanonical (bounds_of flow p) greatest
    canonical = (subst (IsRangeOf (bounds_of flow p)) ends.1 (a.range p l)).1

    at : (x : Cut) → IsOffered flow offers p x → IsOffered flow offers p (At greatest) × IsCutWithin flow p x (At greatest)
    at Present o = let k = sym e ∙ is ∙ o in absurd (cc)
    at (At g) o =
        let j = in_range (bounds_of flow p) (offered_by offers p) ends.0 greatest g ends.1 (sym has ∙ none) o.1 in
        (offered-between flow offers p ends.0 greatest greatest ends.1 canonical (λ t k. j.1 t (j.0 t k), λ t k. k), j.1)

pub greatest_none : (flow : Dataflow) (offers : List Offer) (p : ℕ) (r : Bool) (f : Front) → r ≡ false → r ≡ can_stay offers p → range_of offers p ≡ None → records_of offers p ≡ [] → f ≡ [] → IsGreatest flow offers p (At f)
greatest_none flow offers p r f e is none empty same =
    subst (λ g. IsGreatest flow offers p (At g)) (sym same) (record { canonical = tt; largest = λ asc x o. at x o })
  where
    at : (x : Cut) → IsOffered flow offers p x → IsOffered flow offers p (At []) × IsCutWithin flow p x (At [])
    at Present o = let k = sym e ∙ is ∙ o in absurd (cc)
    at (At g) o = absurd (subst (IsListed g) empty (listed-offered flow offers p g none o))

pub greatest_last : (flow : Dataflow) (offers : List Offer) (p : ℕ) (r : Bool) (f : Front) (before : List Recorded) (last : Recorded) → AreOffersOf flow offers → p < length flow.nodes → r ≡ false → r ≡ can_stay offers p
    → range_of offers p ≡ None → records_of offers p ≡ before ++ last ∷ [] → f ≡ last.front → IsGreatest flow offers p (At f)
greatest_last flow offers p r f before last a l e is none split same =
    subst (λ g. IsGreatest flow offers p (At g)) (sym same) (record { canonical = canonical; largest = λ asc x o. at (asc p l) x o })
  where
    end : (xs : List Recorded) → AllByRecursion (IsRecordOf flow p) (xs ++ last ∷ []) → IsRecordOf flow p last
    end [] b = b.0
    end (y ∷ xs) b = end xs b.1

    canonical : IsCanonical (bounds_of flow p) last.front
    canonical = (end before (subst (AllByRecursion (IsRecordOf flow p)) split (a.records p l))).front

    at : Ascend (bounds_of flow p) (records_of offers p) → (x : Cut) → IsOffered flow offers p x → IsOffered flow offers p (At last.front) × IsCutWithin flow p x (At last.front)
    at asc Present o = let k = sym e ∙ is ∙ o in absurd (cc)
    at asc (At g) o = (
      offered-listed flow offers p last.front canonical (subst (IsListed last.front) (sym split) (listed-there before last [])),
      below_last (bounds_of flow p) before last [] g (subst (Ascend (bounds_of flow p)) split asc) (subst (IsListed g) split (listed-offered flow offers p g none o)) tt,
    )

-- the last record
pub last_is : (rs : List Recorded) (d : Recorded) (r : Bool) (f : Front) → r ≡ (length rs == 0) → r ≡ false → f ≡ (get_or rs (length rs - 1) d).front
    → (before : List Recorded) × (last : Recorded) × (rs ≡ before ++ last ∷ []) × (f ≡ last.front)
last_is rs d r f e k is =
    let some : length rs ≡ 0 → ⊥ = eqb-false (length rs) 0 (sym e ∙ k) in
    let i = length rs - 1 in
    let x = get_or rs i d in
    let l : i < length rs = by (length rs) some in
    let past : length rs ≤ i + 1 = omega arith in
    (take i rs, x, split_at rs i x l (at_itself rs i d l) ∙ ap (λ ys. take i rs ++ x ∷ ys) (drop_all (i + 1) rs past), is)
  where
    by : (n : ℕ) → (n ≡ 0 → ⊥) → n - 1 < n
    by zero s = absurd (s refl)
    by (suc n) s = omega arith

    at_itself : (rs : List Recorded) (i : ℕ) (d : Recorded) → i < length rs → get_or rs i d ≡ get_or rs i (get_or rs i d)
    at_itself [] i d l = absurd (omega arith)
    at_itself (y ∷ rs) zero d l = refl
    at_itself (y ∷ rs) (suc i) d l = at_itself rs i d (omega arith)

pub greatest_records : (flow : Dataflow) (offers : List Offer) (p : ℕ) (r : Bool) (rs : List Recorded) (f : Front) → AreOffersOf flow offers → p < length flow.nodes → r ≡ false → r ≡ can_stay offers p
    → range_of offers p ≡ None → rs ≡ records_of offers p → (rs ≡ [] → f ≡ [])
    → (rs ≢ [] → (before : List Recorded) × (last : Recorded) × (rs ≡ before ++ last ∷ []) × (f ≡ last.front)) → IsGreatest flow offers p (At f)
greatest_records flow offers p r [] f a l e is none same empty some = greatest_none flow offers p r f e is none (sym same) (empty refl)
greatest_records flow offers p r (x ∷ rs) f a l e is none same empty some =
    let s = some (λ k. cc) in
    greatest_last flow offers p r f s.0 s.1 a l e is none (sym same ∙ s.2) s.3

-- ---- the start

pub start_encloses : (flow : Dataflow) (offers : List Offer) (cuts : List Cut) (notices : List Front) → length cuts ≡ length flow.nodes → length notices ≡ length flow.nodes
    → ((p : ℕ) → p < length flow.nodes → IsGreatest flow offers p (cut_of (choice_of cuts notices) p))
    → ((p : ℕ) → p < length flow.nodes → IsFrontOf (bounds_of flow p) (front_of notices p) (set_of flow p (cut_of (choice_of cuts notices) p)))
    → EnclosesConsistent flow offers (choice_of cuts notices)
start_encloses flow offers cuts notices one each greatest kept = record {
  one_cut_each = one;
  one_notice_each = each;
  cuts = λ p l. (greatest p l).canonical;
  notices = λ p l. (kept p l).canonical;
  within = λ a other k. record {
    cuts = λ p l. ((greatest p l).largest a (cut_of other p) (k.offered p l)).1;
    notices = λ p l t i. (kept p l).same t ∙ set-monotone flow p (cut_of other p) (cut_of (choice_of cuts notices) p) ((greatest p l).largest a (cut_of other p) (k.offered p l)).1 t (k.own p l t i);
  };
  offered = λ a other k p l. ((greatest p l).largest a (cut_of other p) (k.offered p l)).0;
}
