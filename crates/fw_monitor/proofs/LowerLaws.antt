-- The largest cut that is left of a node: of its records the last, of a range what is cut down.
use Rattle.std.proofs.Common.{◌≡◌, ℕ, ◌<◌, false, List, [], ◌∷◌, ◌++◌, length, filter, cond, Some, None, refl, sym, ap, subst, ◌∙◌, inl, inr}
use Rattle.std.specs.List.{AllByRecursion}
use Rattle.std.proofs.lemmas.Bool.{cond_both, cond-false}
use Rattle.fw_frontier.specs.Frontier.{Frontier, Within, nothing, cover}
use Rattle.fw_frontier.specs.Front.{Front, frontier_of, is_within, IsCanonical}
use Rattle.fw_frontier.proofs.NamesLaws.{is_within-holds}
use Rattle.fw_flow.specs.declared.choice.Cut.{Cut}
use Rattle.fw_flow.specs.declared.choice.Cut.TheVariants.{Present, At}
use Rattle.fw_flow.specs.declared.choice.Recorded.{Recorded}
use Rattle.fw_flow.specs.declared.choice.Offer.{Offer}
use Rattle.fw_flow.specs.declared.kind.Kind.TheVariants.{Input}
use Rattle.fw_flow.specs.declared.kind.Policy.{Policy}
use Rattle.fw_flow.specs.declared.kind.Policy.TheVariants as policies
use Rattle.fw_flow.specs.declared.restoring.Restoring.TheVariants.{Batches}
use Rattle.fw_flow.specs.Dataflow.{Dataflow, kind_of, policy_of, sender, receiver, bounds_of, node_frontier}
use Rattle.fw_flow.specs.Restoring.{can_resend, way_of}
use Rattle.fw_model.specs.Choice.{IsCutWithin, IsCanonicalCut}
use Rattle.fw_model.specs.Covers.{takes_its_cut, takes_its_notices, discarded_at}
use Rattle.fw_model.specs.Offers.{IsListed, IsOffered, IsFormOf, Ascend, RecordsAscend, offered_by, records_of, range_of, delivered_to, notified_of, offered_sent, stamps_on, stamps_on_from, delivered_in, sent_in, notified_in, covers_of}
use Rattle.fw_model.proofs.ChoiceLaws.{same_fronts, by_batches-input}
use Rattle.fw_model.proofs.OfferLaws.{not_listed, listed-there, below_last, between-offered, offered-between, listed-offered, offered-listed}
use Rattle.fw_flow.specs.declared.side.Side.{Side}
use Rattle.fw_flow.specs.declared.side.Side.TheVariants.{Delivered, Discarded, Notified}
use Rattle.fw_monitor.specs.Kept.{front_or}
use Rattle.fw_model.specs.Inclusions.{owner, side_bounds, left_of}
use Rattle.fw_offers.specs.Sides.{IsLeft}
use Rattle.fw_monitor.specs.Descent.{IsBelow, Fits, IsLower, IsCutDown}
use Rattle.fw_offers.proofs.FrontLaws.{all_is_everything, within_everything}

-- ---- records

others_fail : (flow : Dataflow) (offers : List Offer) (side : Side) (cut : Cut) (bound : Front) (f : Front) (post : List Recorded)
    → IsCutWithin flow (owner flow side) (At f) cut → Within (left_of (covers_of flow offers) side (At f)) (frontier_of (side_bounds flow side) bound)
    → AllByRecursion (λ s. Fits flow offers side cut bound s → ⊥) post → AllByRecursion (λ s. s.front ≡ f → ⊥) post
others_fail flow offers side cut bound f [] w l a = tt
others_fail flow offers side cut bound f (s ∷ post) w l a = (
  λ e. a.0 (
    subst (λ g. IsCutWithin flow (owner flow side) (At g) cut) (sym e) w,
    subst (λ g. Within (left_of (covers_of flow offers) side (At g)) (frontier_of (side_bounds flow side) bound)) (sym e) l,
  ),
  others_fail flow offers side cut bound f post w l a.1,
)

-- a state as it is lies within itself alone
present-within : (flow : Dataflow) (p : ℕ) (cut : Cut) → IsCutWithin flow p Present cut → cut ≡ Present
present-within flow p Present w = refl
present-within flow p (At g) w = absurd w

pub lower_listed : (flow : Dataflow) (offers : List Offer) (side : Side) (cut : Cut) (bound : Front) (pre : List Recorded) (r : Recorded) (post : List Recorded)
    → owner flow side < length flow.nodes → IsCanonical (bounds_of flow (owner flow side)) r.front
    → records_of offers (owner flow side) ≡ pre ++ r ∷ post → range_of offers (owner flow side) ≡ None
    → (Within (left_of (covers_of flow offers) side cut) (frontier_of (side_bounds flow side) bound) → ⊥) → IsBelow flow (owner flow side) r.front cut
    → (RecordsAscend flow offers → Fits flow offers side cut bound r × AllByRecursion (λ s. Fits flow offers side cut bound s → ⊥) post)
    → IsLower flow offers side cut bound (At r.front)
lower_listed flow offers side cut bound pre r post l c is none fails below last =
    let p = owner flow side in
    let b = bounds_of flow p in
    record {
      fails = fails;
      canonical = c;
      within = below.0;
      other = below.1;
      passes = λ ascending. (last ascending).0.1;
      largest = λ ascending offered x left.
          let here : IsListed r.front (records_of offers p) = subst (IsListed r.front) (sym is) (listed-there pre r post) in
          (offered-listed flow offers p r.front c here, at x left.offered left.within left.passes (last ascending).1 (subst (Ascend b) is (ascending p l)));
    }
  where
    at : (x : Cut) → IsOffered flow offers (owner flow side) x → IsCutWithin flow (owner flow side) x cut
        → Within (left_of (covers_of flow offers) side x) (frontier_of (side_bounds flow side) bound) → AllByRecursion (λ s. Fits flow offers side cut bound s → ⊥) post
        → Ascend (bounds_of flow (owner flow side)) (pre ++ r ∷ post) → IsCutWithin flow (owner flow side) x (At r.front)
    at Present offered within passes others ascending =
        absurd (fails (subst (λ x. Within (left_of (covers_of flow offers) side x) (frontier_of (side_bounds flow side) bound)) (sym (present-within flow (owner flow side) cut within)) passes))
    at (At f) offered within passes others ascending =
        below_last (bounds_of flow (owner flow side)) pre r post f ascending
        (subst (IsListed f) is (listed-offered flow offers (owner flow side) f none offered)) (others_fail flow offers side cut bound f post within passes others)

-- where no record fits, nothing is left
pub none_listed : (flow : Dataflow) (offers : List Offer) (side : Side) (cut : Cut) (bound : Front) → range_of offers (owner flow side) ≡ None
    → (Within (left_of (covers_of flow offers) side cut) (frontier_of (side_bounds flow side) bound) → ⊥)
    → AllByRecursion (λ s. Fits flow offers side cut bound s → ⊥) (records_of offers (owner flow side))
    → (x : Cut) → IsLeft flow offers side cut bound x → ⊥
none_listed flow offers side cut bound none fails others x left = at x left.offered left.within left.passes
  where
    at : (x : Cut) → IsOffered flow offers (owner flow side) x → IsCutWithin flow (owner flow side) x cut
        → Within (left_of (covers_of flow offers) side x) (frontier_of (side_bounds flow side) bound) → ⊥
    at Present offered within passes =
        fails (subst (λ x. Within (left_of (covers_of flow offers) side x) (frontier_of (side_bounds flow side) bound)) (sym (present-within flow (owner flow side) cut within)) passes)
    at (At f) offered within passes =
        not_listed (records_of offers (owner flow side)) f (listed-offered flow offers (owner flow side) f none offered)
        (others_fail flow offers side cut bound f (records_of offers (owner flow side)) within passes others)

-- ---- ranges

-- the frontier from which a range is cut down lies within the cut
base-within : (flow : Dataflow) (p : ℕ) (cut : Cut) (greatest f : Front)
    → Within (node_frontier flow p f) (node_frontier flow p (front_or cut greatest)) → IsCutWithin flow p (At f) cut
base-within flow p Present greatest f w = tt
base-within flow p (At g) greatest f w =
    cond_both (is_within greatest g) greatest g (λ h. Within (node_frontier flow p f) (node_frontier flow p h) → Within (node_frontier flow p f) (node_frontier flow p g))
    (λ k v t i. is_within-holds (bounds_of flow p) greatest g k t (v t i)) (λ k v. v) w

-- what lies within the cut and in the range lies within it
within-base : (flow : Dataflow) (p : ℕ) (cut : Cut) (greatest x : Front) → Within (node_frontier flow p x) (node_frontier flow p greatest)
    → IsCutWithin flow p (At x) cut → Within (node_frontier flow p x) (node_frontier flow p (front_or cut greatest))
within-base flow p Present greatest x v w = v
within-base flow p (At g) greatest x v w =
    cond_both (is_within greatest g) greatest g (λ h. Within (node_frontier flow p x) (node_frontier flow p h)) (λ k. v) (λ k. w)

-- and it lies in the range, if the cut is offered
base-between : (flow : Dataflow) (offers : List Offer) (p : ℕ) (cut : Cut) (least greatest : Front) → range_of offers p ≡ Some (least, greatest)
    → IsFormOf (way_of flow p) (offered_by offers p) → IsOffered flow offers p cut
    → Within (node_frontier flow p (front_or cut greatest)) (node_frontier flow p greatest)
base-between flow offers p Present least greatest is fits offered = λ t k. k
base-between flow offers p (At g) least greatest is fits offered =
    cond_both (is_within greatest g) greatest g (λ h. Within (node_frontier flow p h) (node_frontier flow p greatest))
    (λ k t i. i) (λ k. elim (between-offered flow offers p least greatest g is fits offered) [
      | inl j ↦ j.1
      | inr j ↦ absurd (by g j.1 k)
    ])
  where
    by : (g : Front) → g ≡ [] → is_within greatest g ≡ false → ⊥
    by [] e k = cc
    by (o ∷ os) e k = cc

-- a source has in all that it offers what it has as it is
all-as-present : (flow : Dataflow) (offers : List Offer) (side : Side) → way_of flow (owner flow side) ≡ Batches
    → left_of (covers_of flow offers) side (At []) ≡ left_of (covers_of flow offers) side Present
all-as-present flow offers (Delivered d) e =
    let b = bounds_of flow (receiver flow d) in
    subst (λ way. cond (takes_its_cut way) (frontier_of b []) (delivered_in flow offers d way (At [])) ≡ delivered_in flow offers d way Present) (sym e)
    (ap (λ f. cover b (filter f (stamps_on d (delivered_to offers (receiver flow d))))) (all_is_everything b))
all-as-present flow offers (Discarded c) e =
    let b = bounds_of flow (sender flow c) in
    ap (λ f. cond (can_resend (policy_of flow (sender flow c))) nothing f)
    (subst (λ way. discarded_at flow c way (sent_in flow offers c way (At [])) [] ≡ sent_in flow offers c way Present) (sym e)
    (ap (λ f. cover (bounds_of flow (receiver flow c)) (stamps_on_from c f (offered_sent offers (sender flow c)))) (all_is_everything b)))
all-as-present flow offers (Notified p) e =
    let b = bounds_of flow p in
    cond-false (takes_its_notices (kind_of flow p) (policy_of flow p)) (frontier_of b []) (notified_in flow offers p (way_of flow p) (At []))
    (subst (λ kind. takes_its_notices kind (policy_of flow p) ≡ false) (sym (by_batches-input (kind_of flow p) (policy_of flow p) e)) (none (policy_of flow p)))
    ∙ subst (λ way. notified_in flow offers p way (At []) ≡ notified_in flow offers p way Present) (sym e)
    (ap (λ f. cover b (filter f (notified_of offers p))) (all_is_everything b))
  where
    none : (policy : Policy) → takes_its_notices Input policy ≡ false
    none policies.None = refl
    none policies.Lazy = refl
    none policies.Logged = refl
    none policies.Eager = refl
    none policies.Full = refl

-- so all is not left of a source
all-fails : (flow : Dataflow) (offers : List Offer) (side : Side) (cut : Cut) (bound : Front) → way_of flow (owner flow side) ≡ Batches
    → IsCanonicalCut (bounds_of flow (owner flow side)) cut → (Within (left_of (covers_of flow offers) side cut) (frontier_of (side_bounds flow side) bound) → ⊥)
    → IsCutWithin flow (owner flow side) (At []) cut → Within (left_of (covers_of flow offers) side (At [])) (frontier_of (side_bounds flow side) bound) → ⊥
all-fails flow offers side Present bound way c fails w l =
    fails (subst (λ x. Within x (frontier_of (side_bounds flow side) bound)) (all-as-present flow offers side way) l)
all-fails flow offers side (At g) bound way c fails w l =
    let b = bounds_of flow (owner flow side) in
    let same : [] ≡ g = same_fronts b [] g tt c w (λ t k. ap (λ (f : Frontier). f t) (all_is_everything b) ∙ within_everything b g t k) in
    fails (subst (λ x. Within (left_of (covers_of flow offers) side (At x)) (frontier_of (side_bounds flow side) bound)) same l)

pub lower_range : (flow : Dataflow) (offers : List Offer) (side : Side) (cut : Cut) (bound f least greatest : Front)
    → range_of offers (owner flow side) ≡ Some (least, greatest) → IsFormOf (way_of flow (owner flow side)) (offered_by offers (owner flow side))
    → IsCanonicalCut (bounds_of flow (owner flow side)) cut → (Within (left_of (covers_of flow offers) side cut) (frontier_of (side_bounds flow side) bound) → ⊥)
    → IsCutDown flow offers side (front_or cut greatest) bound f → IsLower flow offers side cut bound (At f)
lower_range flow offers side cut bound f least greatest is fits c fails down = record {
  fails = fails;
  canonical = down.canonical;
  within = base-within flow (owner flow side) cut greatest f down.within;
  other = λ e. fails (subst (λ x. Within (left_of (covers_of flow offers) side x) (frontier_of (side_bounds flow side) bound)) e down.passes);
  passes = λ ascending. down.passes;
  largest = λ ascending offered x left. at x offered left.offered left.within left.passes;
}
  where
    at : (x : Cut) → IsOffered flow offers (owner flow side) cut → IsOffered flow offers (owner flow side) x → IsCutWithin flow (owner flow side) x cut
        → Within (left_of (covers_of flow offers) side x) (frontier_of (side_bounds flow side) bound)
        → IsOffered flow offers (owner flow side) (At f) × IsCutWithin flow (owner flow side) x (At f)
    at Present old offered within passes =
        absurd (fails (subst (λ x. Within (left_of (covers_of flow offers) side x) (frontier_of (side_bounds flow side) bound)) (sym (present-within flow (owner flow side) cut within)) passes))
    at (At g) old offered within passes = elim (between-offered flow offers (owner flow side) least greatest g is fits offered) [
      | inl i ↦
          let inner = down.largest g (within-base flow (owner flow side) cut greatest g i.1 within) passes in
          let high = base-between flow offers (owner flow side) cut least greatest is fits old in (
            offered-between flow offers (owner flow side) least greatest f is down.canonical (λ t k. inner t (i.0 t k), λ t k. high t (down.within t k)),
            inner,
          )
      | inr i ↦ absurd (all-fails flow offers side cut bound i.0 c fails
          (subst (λ h. IsCutWithin flow (owner flow side) (At h) cut) i.1 within)
          (subst (λ h. Within (left_of (covers_of flow offers) side (At h)) (frontier_of (side_bounds flow side) bound)) i.1 passes))
    ]
