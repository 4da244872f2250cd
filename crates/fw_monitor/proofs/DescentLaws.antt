-- What a lower value keeps, and where the descent ends.
use Rattle.std.proofs.Common.{◌≡◌, ◌≢◌, ℕ, ◌<◌, ◌≤◌, List, [], length, set, get_or, refl, sym, ap, subst, ◌∙◌, inl, inr, arith}
use Rattle.std.proofs.lemmas.Bool.{cases_eq}
use Rattle.std.proofs.lemmas.List.{get_or-set_same, get_or-set_other, length-set}
use Rattle.fw_frontier.specs.Frontier.{Within, everything}
use Rattle.fw_frontier.specs.Front.{Front, frontier_of, IsCanonical}
use Rattle.fw_flow.specs.declared.choice.Choice.{Choice}
use Rattle.fw_flow.specs.declared.choice.Cut.{Cut}
use Rattle.fw_flow.specs.declared.choice.Cut.TheVariants.{Present, At}
use Rattle.fw_flow.specs.declared.choice.Offer.{Offer}
use Rattle.fw_flow.specs.Dataflow.{Dataflow, bounds_of}
use Rattle.fw_flow.specs.WellFormed.{IsWellFormed}
use Rattle.fw_model.specs.Machine.{front_of}
use Rattle.fw_model.specs.Choice.{cut_of, notice_of, IsLargestBy, IsCutWithin, IsChoiceOf, IsCanonicalCut}
use Rattle.fw_model.specs.Offers.{IsOffered, RecordsAscend, covers_of}
use Rattle.fw_flow.specs.declared.side.Side.TheVariants.{Delivered, Discarded, Notified}
use Rattle.fw_flow.specs.declared.side.Limit.TheVariants.{Own, Note}
use Rattle.fw_flow.specs.declared.side.Inclusion.{Inclusion}
use Rattle.fw_flow.specs.declared.side.Inclusion.TheVariants.{OfCut, OfNote}
use Rattle.fw_monitor.specs.Held.{held_count}
use Rattle.fw_model.specs.Inclusions.{owner, Holds, IsInclusionOf, node_of, note_node}
use Rattle.fw_model.specs.Lowerings.{choice_of, IsValueLeft, IsGreatestLeft, with_value}
use Rattle.fw_monitor.specs.Descent.{IsConsistentOf, EnclosesConsistent, HasConsistent, cut_weight, node_weight, weight}
use Rattle.fw_monitor.proofs.HeldLaws.{sum_below-less, held-most, held-less}
use Rattle.fw_offers.proofs.FrontLaws.{within_everything}
use Rattle.fw_model.proofs.ArrivedLaws.{arrived-monotone}
use Rattle.fw_model.proofs.InclusionLaws.{right-monotone, consistent-holds, owner-there, node-there, set_there, value_of}

-- ---- a list with another value at one place

set_less : {A : Type 0} (size : ℕ → A → ℕ) (xs : List A) (p : ℕ) (x d : A) → p < length xs → size p x < size p (get_or xs p d)
    → (size p (get_or (set xs p x) p d) < size p (get_or xs p d)) × ((q : ℕ) → size q (get_or (set xs p x) q d) ≤ size q (get_or xs q d))
set_less size xs p x d l k =
    let here : size p (get_or (set xs p x) p d) < size p (get_or xs p d) = subst (λ y. size p y < size p (get_or xs p d)) (sym (get_or-set_same xs p x d l)) k in (
      here,
      λ q. elim (cases_eq q p) [
        | inl e ↦
            let at : size q (get_or (set xs p x) q d) < size q (get_or xs q d) = subst (λ r. size r (get_or (set xs p x) r d) < size r (get_or xs r d)) (sym e) here in
            omega arith
        | inr e ↦
            let at : size q (get_or (set xs p x) q d) ≡ size q (get_or xs q d) = ap (size q) (get_or-set_other xs p q x d e) in
            omega arith
      ],
    )

-- ---- how much less a lower value weighs

cut_weight-less : (flow : Dataflow) (p : ℕ) (c d : Cut) → IsCanonicalCut (bounds_of flow p) c → IsCanonicalCut (bounds_of flow p) d → IsCutWithin flow p c d → c ≢ d
    → cut_weight (bounds_of flow p) c < cut_weight (bounds_of flow p) d
unfolding cut_weight
cut_weight-less flow p Present Present cc1 cd w n = absurd (n refl)
cut_weight-less flow p (At f) Present cc1 cd w n =
    let b = bounds_of flow p in
    let m = held-most b.greatest (frontier_of b f) (everything b) (within_everything b f) in
    omega arith
cut_weight-less flow p Present (At g) cc1 cd w n = absurd w
cut_weight-less flow p (At f) (At g) cc1 cd w n = held-less (bounds_of flow p) f g cc1 cd w (λ e. n (ap At e))

pub lighter_cut : (flow : Dataflow) (offers : List Offer) (choice : Choice) (p : ℕ) (c : Cut) → EnclosesConsistent flow offers choice → p < length flow.nodes → IsCanonicalCut (bounds_of flow p) c
    → IsCutWithin flow p c (cut_of choice p) → c ≢ cut_of choice p → weight flow (choice_of (set choice.cuts p c) choice.notices) < weight flow choice
unfolding weight node_weight
lighter_cut flow offers choice p c r l canonical w n =
    let one = r.one_cut_each in
    let new = choice_of (set choice.cuts p c) choice.notices in
    let less = set_less (λ q d. cut_weight (bounds_of flow q) d) choice.cuts p c Present (omega arith) (cut_weight-less flow p c (cut_of choice p) canonical (r.cuts p l) w n) in
    let here = less.0 in
    sum_below-less (length flow.nodes) (node_weight flow new) (node_weight flow choice) p (λ q. let at = less.1 q in omega arith) l (omega arith)

pub lighter_notice : (flow : Dataflow) (offers : List Offer) (choice : Choice) (p : ℕ) (f : Front) → EnclosesConsistent flow offers choice → p < length flow.nodes → IsCanonical (bounds_of flow p) f
    → Within (frontier_of (bounds_of flow p) f) (notice_of flow choice p) → f ≢ front_of choice.notices p → weight flow (choice_of choice.cuts (set choice.notices p f)) < weight flow choice
unfolding weight node_weight
lighter_notice flow offers choice p f r l canonical w n =
    let one = r.one_notice_each in
    let new = choice_of choice.cuts (set choice.notices p f) in
    let less = set_less (λ q g. held_count (bounds_of flow q).greatest (frontier_of (bounds_of flow q) g)) choice.notices p f [] (omega arith)
    (held-less (bounds_of flow p) f (front_of choice.notices p) canonical (r.notices p l) w n) in
    let here = less.0 in
    sum_below-less (length flow.nodes) (node_weight flow new) (node_weight flow choice) p (λ q. let at = less.1 q in omega arith) l (omega arith)

-- ---- what a lower value keeps

-- that of a consistent choice is left
pub consistent_left : (flow : Dataflow) (offers : List Offer) (i : Inclusion) (choice other : Choice) → IsWellFormed flow → IsInclusionOf flow i → EnclosesConsistent flow offers choice
    → RecordsAscend flow offers → IsConsistentOf flow offers other → IsValueLeft flow (covers_of flow offers) (IsOffered flow offers) choice i (value_of flow other i)
consistent_left flow offers (OfCut side) choice other well there r a k =
    let l = owner-there flow side well there in
    let inner = r.within a other k in
    record {
      offered = k.offered (owner flow side) l;
      within = inner.cuts (owner flow side) l;
      meets = λ t j. right-monotone flow (covers_of flow offers) (OfCut side) other choice well (arrived-monotone flow offers) there inner t (consistent-holds flow (covers_of flow offers) (IsOffered flow offers) other k (OfCut side) there t j);
    }
consistent_left flow offers (OfNote limit) choice other well there r a k =
    let l = node-there flow (OfNote limit) well there in
    let inner = r.within a other k in
    record {
      canonical = k.canonical (note_node flow limit) l;
      within = inner.notices (note_node flow limit) l;
      meets = λ t j. right-monotone flow (covers_of flow offers) (OfNote limit) other choice well (arrived-monotone flow offers) there inner t (consistent-holds flow (covers_of flow offers) (IsOffered flow offers) other k (OfNote limit) there t j);
    }

-- a choice with the greatest value that is left encloses each consistent one
pub value_encloses : (flow : Dataflow) (offers : List Offer) (i : Inclusion) (choice : Choice) (x : Cut) → IsWellFormed flow → IsInclusionOf flow i → EnclosesConsistent flow offers choice
    → IsCanonicalCut (bounds_of flow (node_of flow i)) x → (HasConsistent flow offers → IsGreatestLeft flow (covers_of flow offers) (IsOffered flow offers) choice i x) → EnclosesConsistent flow offers (with_value flow choice i x)
value_encloses flow offers (OfCut side) choice x well there r canonical low =
    let p = owner flow side in
    let one = r.one_cut_each in
    let l = owner-there flow side well there in
    let here : p < length choice.cuts = omega arith in
    record {
      one_cut_each = length-set choice.cuts p x ∙ r.one_cut_each;
      one_notice_each = r.one_notice_each;
      cuts = set_there (λ q d. IsCanonicalCut (bounds_of flow q) d) choice.cuts (length flow.nodes) p x Present here r.cuts canonical;
      notices = r.notices;
      within = λ a other k. record {
        cuts = set_there (λ q d. IsCutWithin flow q (cut_of other q) d) choice.cuts (length flow.nodes) p x Present here (λ q m. (r.within a other k).cuts q m)
            ((low (a, (other, k))).greatest (cut_of other p) (consistent_left flow offers (OfCut side) choice other well there r a k));
        notices = λ q m. (r.within a other k).notices q m;
      };
      offered = λ a other k. set_there (IsOffered flow offers) choice.cuts (length flow.nodes) p x Present here (r.offered a other k) (low (a, (other, k))).left.offered;
    }
value_encloses flow offers (OfNote limit) choice Present well there r canonical low = r
value_encloses flow offers (OfNote limit) choice (At f) well there r canonical low =
    let p = note_node flow limit in
    let one = r.one_notice_each in
    let l = node-there flow (OfNote limit) well there in
    let here : p < length choice.notices = omega arith in
    record {
      one_cut_each = r.one_cut_each;
      one_notice_each = length-set choice.notices p f ∙ r.one_notice_each;
      cuts = r.cuts;
      notices = set_there (λ q g. IsCanonical (bounds_of flow q) g) choice.notices (length flow.nodes) p f [] here r.notices canonical;
      within = λ a other k. record {
        cuts = λ q m. (r.within a other k).cuts q m;
        notices = set_there (λ q g. Within (notice_of flow other q) (frontier_of (bounds_of flow q) g)) choice.notices (length flow.nodes) p f [] here (λ q m. (r.within a other k).notices q m)
            ((low (a, (other, k))).greatest (At (front_of other.notices p)) (consistent_left flow offers (OfNote limit) choice other well there r a k));
      };
      offered = r.offered;
    }

-- ---- the end

-- where each inclusion holds and each cut is offered, the choice is consistent
pub consistent_of : (flow : Dataflow) (offers : List Offer) (choice : Choice) → EnclosesConsistent flow offers choice → ((p : ℕ) → p < length flow.nodes → IsOffered flow offers p (cut_of choice p))
    → ((i : Inclusion) → IsInclusionOf flow i → Holds flow (covers_of flow offers) choice i) → IsConsistentOf flow offers choice
consistent_of flow offers choice r offered holds = record {
  one_cut_each = r.one_cut_each;
  one_notice_each = r.one_notice_each;
  offered = offered;
  canonical = r.notices;
  delivered = λ d l. holds (OfCut (Delivered d)) l;
  discarded = λ e l. holds (OfCut (Discarded e)) l;
  notified = λ p l. holds (OfCut (Notified p)) l;
  own = λ p l. holds (OfNote (Own p)) l;
  notices = λ d l. holds (OfNote (Note d)) l;
}

-- and the largest
pub largest_of : (flow : Dataflow) (offers : List Offer) (choice : Choice) → EnclosesConsistent flow offers choice → HasConsistent flow offers
    → ((i : Inclusion) → IsInclusionOf flow i → Holds flow (covers_of flow offers) choice i) → IsLargestBy flow (covers_of flow offers) (IsOffered flow offers) choice
largest_of flow offers choice r has holds = record {
  consistent = consistent_of flow offers choice r (r.offered has.0 has.1.0 has.1.1) holds;
  largest = λ other k. r.within has.0 other k;
}

-- what encloses the consistent choices is a choice of the dataflow
pub of_flow : (flow : Dataflow) (offers : List Offer) (choice : Choice) → EnclosesConsistent flow offers choice → IsChoiceOf flow choice
of_flow flow offers choice e = record { one_cut_each = e.one_cut_each; one_notice_each = e.one_notice_each; cuts = e.cuts; notices = e.notices }
