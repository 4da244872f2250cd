-- Whether an entry is right at a choice.
use Rattle.std.proofs.Common.{◌≡◌, ◌↔◌, ◌<◌, Bool, true, false, not, ◌&&◌, ◌||◌, List, [], ◌∷◌, length, refl, sym, ap, subst, ◌∙◌, arith}
use Rattle.std.specs.List.{AllByRecursion, list_all}
use Rattle.std.proofs.lemmas.Bool.{and_parts, and_from, both_ways, or_left}
use Rattle.std.proofs.lemmas.List.{length-set}
use Rattle.fw_lemmas.proofs.Each.{all-of_each, each-both, each-of_all, each-weaker}
use Rattle.fw_time.specs.Stamp.{Stamp, leq, in_domain}
use Rattle.fw_time.specs.declared.stamp.Bounds.{Bounds}
use Rattle.fw_time.proofs.StampLaws.{leq-refl}
use Rattle.fw_frontier.specs.Frontier.{Within}
use Rattle.fw_frontier.specs.Front.{Front, inside, frontier_of, IsCanonical, IsFrontOf}
use Rattle.fw_frontier.specs.Outside.{below_at}
use Rattle.fw_frontier.proofs.CanonicalLaws.{in_domain-canonical}
use Rattle.fw_frontier.proofs.NamesLaws.{all-outside, frontier-closed, names-below}
use Rattle.fw_flow.specs.declared.choice.Choice.{Choice}
use Rattle.fw_flow.specs.declared.choice.Cut.{Cut}
use Rattle.fw_flow.specs.declared.choice.Cut.TheVariants.{Present, At}
use Rattle.fw_flow.specs.declared.choice.Offer.{Offer}
use Rattle.fw_flow.specs.declared.side.Side.{Side}
use Rattle.fw_flow.specs.declared.side.Limit.{Limit}
use Rattle.fw_flow.specs.declared.side.Inclusion.{Inclusion}
use Rattle.fw_flow.specs.declared.side.Inclusion.TheVariants.{OfCut, OfNote}
use Rattle.fw_flow.specs.declared.trail.Lowering.{Lowering}
use Rattle.fw_flow.specs.Dataflow.{Dataflow, bounds_of}
use Rattle.fw_flow.specs.WellFormed.{IsWellFormed}
use Rattle.fw_model.specs.Machine.{front_of}
use Rattle.fw_model.specs.Choice.{cut_of, IsCanonicalCut, IsChoiceOf, IsCutWithin}
use Rattle.fw_model.specs.Inclusions.{owner, note_node, side_bounds, right_of, limit_of, Holds, IsInclusionOf}
use Rattle.fw_model.specs.Lowerings.{IsCutLeft, IsGreatestLeft, IsRightLowering, IsValueLeft, lowering_of, with_value}
use Rattle.fw_model.specs.Offers.{IsOffered, covers_of}
use Rattle.fw_model.proofs.InclusionLaws.{node-there, set_there}
use Rattle.fw_offers.specs.Sides.{IsLeft}
use Rattle.fw_offers.proofs.OfferedLaws.{left-canonical}
use Rattle.fw_certify.specs.Checked.{IsGreatestOfLeft, IsJudged, IsMeetOf, IsValueJudged}
use Rattle.fw_certify.proofs.EntryLaws.{said-one}
use Rattle.fw_certify.proofs.LeftLaws.{cover-one, not-true}

-- ---- cuts

-- what is left at a choice is left by the front of the right side
pub cut_left-is : (flow : Dataflow) (offers : List Offer) (side : Side) (choice : Choice) (bound : Front) (x : Cut) → IsFrontOf (side_bounds flow side) bound (right_of flow (covers_of flow offers) side choice)
    → IsCutLeft flow (covers_of flow offers) (IsOffered flow offers) choice side x ↔ IsLeft flow offers side (cut_of choice (owner flow side)) bound x
cut_left-is flow offers side choice bound x n = (
  λ k. record { offered = k.offered; within = k.within; passes = λ t i. n.same t ∙ k.meets t i },
  λ k. record { offered = k.offered; within = k.within; meets = λ t i. sym (n.same t) ∙ k.passes t i },
)

pub cut_greatest-is : (flow : Dataflow) (offers : List Offer) (side : Side) (choice : Choice) (bound : Front) (x : Cut) → IsFrontOf (side_bounds flow side) bound (right_of flow (covers_of flow offers) side choice)
    → IsGreatestOfLeft flow offers side (cut_of choice (owner flow side)) bound x ↔ IsGreatestLeft flow (covers_of flow offers) (IsOffered flow offers) choice (OfCut side) x
cut_greatest-is flow offers side choice bound x n = (
  λ k. record { left = (cut_left-is flow offers side choice bound x n).1 k.left; greatest = λ y l. k.greatest y ((cut_left-is flow offers side choice bound y n).0 l) },
  λ k. record { left = (cut_left-is flow offers side choice bound x n).0 k.left; greatest = λ y l. k.greatest y ((cut_left-is flow offers side choice bound y n).1 l) },
)

-- ---- notification frontiers

-- a frontier is the meet of two others exactly where it lies within them, and each stamp just outside is outside one of them
pub meet-is : (b : Bounds) (one other f : Front) → IsCanonical b f → Within (frontier_of b f) (frontier_of b one) → Within (frontier_of b f) (frontier_of b other)
    → (list_all (λ o. not (inside one o) || not (inside other o)) f ≡ true) ↔ IsMeetOf b one other f
meet-is b one other f c v w = (
  λ all. record { first = v; second = w; greatest = λ g d x y. within g x y f c (each-of_all (λ o. not (inside one o) || not (inside other o)) f all) },
  λ m. all-of_each (λ o. not (inside one o) || not (inside other o)) f
      (each-weaker (λ o. (in_domain b o ≡ true) × (inside f o ≡ false)) (λ o. (not (inside one o) || not (inside other o)) ≡ true) f (λ o k. out m o k.0 k.1)
      (each-both (λ o. in_domain b o ≡ true) (λ o. inside f o ≡ false) f (in_domain-canonical b f c) (all-outside f))),
)
  where
    neither : (p q : Bool) → p ≡ true → q ≡ true → (not p || not q) ≡ true → ⊥
    neither true true e k h = cc
    neither false q e k h = cc
    neither true false e k h = cc

    within : (g : Front) → Within (frontier_of b g) (frontier_of b one) → Within (frontier_of b g) (frontier_of b other)
        → (os : Front) → IsCanonical b os → AllByRecursion (λ o. (not (inside one o) || not (inside other o)) ≡ true) os → Within (frontier_of b g) (frontier_of b os)
    within g x y [] d all t k = and_from (in_domain b t) true (and_parts (in_domain b t) (inside g t) k).0 refl
    within g x y (o ∷ os) d all t k =
        let fr = frontier-closed b g in
        let rest = and_parts (in_domain b t) (inside os t) (within g x y os d.1 all.1 t k) in
        and_from (in_domain b t) (not (leq o t) && inside os t) rest.0 (and_from (not (leq o t)) (inside os t) (not-true (leq o t) (λ l.
        let here = fr.closed o t d.0.in_the_domain l k in
        neither (inside one o) (inside other o) (and_parts (in_domain b o) (inside one o) (x o here)).1 (and_parts (in_domain b o) (inside other o) (y o here)).1 all.0)) rest.1)

    out : IsMeetOf b one other f → (o : Stamp) → in_domain b o ≡ true → inside f o ≡ false → (not (inside one o) || not (inside other o)) ≡ true
    out m o d e = by (inside one o) (inside other o) refl refl
      where
        by : (p q : Bool) → inside one o ≡ p → inside other o ≡ q → (not p || not q) ≡ true
        by false q i j = refl
        by true false i j = refl
        by true true i j =
            let n = names-below b o d in
            let x = below_at o b.greatest (length o) in
            let up = λ (h : Front) (k : inside h o ≡ true). cover-one b o (frontier_of b h) (frontier-closed b h) (and_from (in_domain b o) (inside h o) d k) in
            let top = and_from (in_domain b o) (leq o o || false) d (or_left (leq o o) false (leq-refl o)) in
            absurd (both_ways (inside f o) e (and_parts (in_domain b o) (inside f o)
            (m.greatest x n.canonical (λ t k. up one i t (sym (n.same t) ∙ k)) (λ t k. up other j t (sym (n.same t) ∙ k)) o (n.same o ∙ top))).1)

pub note_greatest-is : (flow : Dataflow) (offers : List Offer) (limit : Limit) (choice : Choice) (bound f : Front) → IsCanonical (bounds_of flow (note_node flow limit)) f
    → IsFrontOf (bounds_of flow (note_node flow limit)) bound (limit_of flow (covers_of flow offers) limit choice)
    → IsMeetOf (bounds_of flow (note_node flow limit)) (front_of choice.notices (note_node flow limit)) bound f
    ↔ IsGreatestLeft flow (covers_of flow offers) (IsOffered flow offers) choice (OfNote limit) (At f)
note_greatest-is flow offers limit choice bound f c n = (
  λ m. record { left = record { canonical = c; within = m.first; meets = λ t i. sym (n.same t) ∙ m.second t i }; greatest = at m },
  λ k. record {
    first = k.left.within;
    second = λ t i. n.same t ∙ k.left.meets t i;
    greatest = λ g d v w. k.greatest (At g) (record { canonical = d; within = v; meets = λ t i. sym (n.same t) ∙ w t i });
  },
)
  where
    at : IsMeetOf (bounds_of flow (note_node flow limit)) (front_of choice.notices (note_node flow limit)) bound f
        → (y : Cut) → IsValueLeft flow (covers_of flow offers) (IsOffered flow offers) choice (OfNote limit) y → IsCutWithin flow (note_node flow limit) y (At f)
    at m Present k = absurd k
    at m (At g) k = m.greatest g k.canonical k.within (λ t i. n.same t ∙ k.meets t i)

-- a state as it is is no notification frontier
pub note-present : (flow : Dataflow) (offers : List Offer) (limit : Limit) (choice : Choice) (to : Cut) → to ≡ Present
    → IsGreatestLeft flow (covers_of flow offers) (IsOffered flow offers) choice (OfNote limit) to → ⊥
note-present flow offers limit choice to e k = (subst (IsGreatestLeft flow (covers_of flow offers) (IsOffered flow offers) choice (OfNote limit)) e k).left

-- ---- entries

-- an entry that tells no inclusion is wrong
pub untold-judged : (flow : Dataflow) (offers : List Offer) (l : Lowering) (choice : Choice)
    → ((i : Inclusion) → IsInclusionOf flow i → l ≡ lowering_of flow i l.to → ⊥) → IsJudged flow offers l choice choice false
untold-judged flow offers l choice none = record { taken = λ e. absurd (cc); refused = λ e next r. none r.inclusion r.of_flow r.told }

-- the inclusion of a right lowering is the one that the entry tells
same-inclusion : (flow : Dataflow) (offers : List Offer) (l : Lowering) (choice next : Choice) (i : Inclusion) → l ≡ lowering_of flow i l.to
    → (r : IsRightLowering flow (covers_of flow offers) (IsOffered flow offers) choice l next) → r.inclusion ≡ i
same-inclusion flow offers l choice next i told r = said-one flow l r.inclusion r.told ∙ sym (said-one flow l i told)

-- one whose value is not of the domain is wrong
pub other_domain-judged : (flow : Dataflow) (offers : List Offer) (l : Lowering) (choice : Choice)
    → (IsCanonicalCut (bounds_of flow l.node) l.to → ⊥) → IsJudged flow offers l choice choice false
other_domain-judged flow offers l choice none = record {
  taken = λ e. absurd (cc);
  refused = λ e next r. none (subst (λ p. IsCanonicalCut (bounds_of flow p) l.to) (sym (ap (λ (x : Lowering). x.node) r.told))
      (left-canonical flow offers choice r.inclusion l.to r.greatest.left));
}

-- one whose inclusion holds is wrong
pub holding-judged : (flow : Dataflow) (offers : List Offer) (l : Lowering) (choice : Choice) (i : Inclusion) → l ≡ lowering_of flow i l.to → Holds flow (covers_of flow offers) choice i
    → IsJudged flow offers l choice choice false
holding-judged flow offers l choice i told holds = record {
  taken = λ e. absurd (cc);
  refused = λ e next r. r.fails (subst (Holds flow (covers_of flow offers) choice) (sym (same-inclusion flow offers l choice next i told r)) holds);
}

-- else it is as its value is judged
pub value-judged : (flow : Dataflow) (offers : List Offer) (l : Lowering) (old new : Choice) (i : Inclusion) (right : Bool) → IsInclusionOf flow i → l ≡ lowering_of flow i l.to
    → (Holds flow (covers_of flow offers) old i → ⊥) → IsValueJudged flow offers i l.to old new right → IsJudged flow offers l old new right
value-judged flow offers l old new i right there told fails v = record {
  taken = λ e. record { inclusion = i; of_flow = there; told = told; fails = fails; greatest = (v.taken e).0; with_it = (v.taken e).1 };
  refused = λ e next r. v.refused e
      (subst (λ j. IsGreatestLeft flow (covers_of flow offers) (IsOffered flow offers) old j l.to) (same-inclusion flow offers l old next i told r) r.greatest);
}

-- ---- what a right lowering leads to

-- the next choice is one
pub next-one : (flow : Dataflow) (offers : List Offer) (choice next other : Choice) (l : Lowering) → IsRightLowering flow (covers_of flow offers) (IsOffered flow offers) choice l next
    → IsRightLowering flow (covers_of flow offers) (IsOffered flow offers) choice l other → next ≡ other
next-one flow offers choice next other l r s =
    r.with_it ∙ ap (λ i. with_value flow choice i l.to) (same-inclusion flow offers l choice next s.inclusion s.told r) ∙ sym s.with_it

-- and of the dataflow
pub next-of_flow : (flow : Dataflow) (offers : List Offer) (choice next : Choice) (l : Lowering) → IsWellFormed flow → IsChoiceOf flow choice
    → IsRightLowering flow (covers_of flow offers) (IsOffered flow offers) choice l next → IsChoiceOf flow next
next-of_flow flow offers choice next l well c r = subst (IsChoiceOf flow) (sym r.with_it) (at r.inclusion l.to r.of_flow r.greatest.left)
  where
    at : (i : Inclusion) (x : Cut) → IsInclusionOf flow i → IsValueLeft flow (covers_of flow offers) (IsOffered flow offers) choice i x → IsChoiceOf flow (with_value flow choice i x)
    at (OfCut side) x there left =
        let p = owner flow side in
        let one = c.one_cut_each in
        let l = node-there flow (OfCut side) well there in
        let here : p < length choice.cuts = omega arith in
        record {
          one_cut_each = length-set choice.cuts p x ∙ c.one_cut_each;
          one_notice_each = c.one_notice_each;
          cuts = set_there (λ q d. IsCanonicalCut (bounds_of flow q) d) choice.cuts (length flow.nodes) p x Present here c.cuts (left-canonical flow offers choice (OfCut side) x left);
          notices = c.notices;
        }
    at (OfNote limit) Present there left = c
    at (OfNote limit) (At f) there left =
        let p = note_node flow limit in
        let one = c.one_notice_each in
        let l = node-there flow (OfNote limit) well there in
        let here : p < length choice.notices = omega arith in
        record {
          one_cut_each = c.one_cut_each;
          one_notice_each = length-set choice.notices p f ∙ c.one_notice_each;
          cuts = c.cuts;
          notices = set_there (λ q g. IsCanonical (bounds_of flow q) g) choice.notices (length flow.nodes) p f [] here c.notices left.canonical;
        }
