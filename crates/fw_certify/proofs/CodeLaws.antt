-- What the checker's code finds, as it asks.
use Rattle.std.proofs.Common.{◌≡◌, ◌↔◌, ℕ, zero, suc, ◌+◌, ◌<◌, ◌≤◌, Bool, true, false, not, ◌||◌, ◌==◌, List, [], ◌∷◌, ◌++◌, length, reverse, get_or, set, take, Some, None, refl, sym, ap, subst, ◌∙◌, inr, arith}
use Rattle.std.specs.List.{AllByRecursion, find, list_all}
use Rattle.std.proofs.lemmas.Bool.{both_ways, eqb-false, eqb-true}
use Rattle.std.specs.Prelude.{slice_get, IfSome, IsSome, MatchOption, Option}
use Rattle.std.proofs.lemmas.List.{get_or_default, get_or_read, take_more}
use Rattle.fw_lemmas.proofs.Each.{each-at}
use Rattle.fw_time.specs.Stamp.{Stamp, in_domain}
use Rattle.fw_time.specs.declared.stamp.Bounds.{Bounds}
use Rattle.fw_frontier.specs.Frontier.{Within, cover}
use Rattle.fw_frontier.specs.Front.{Front, frontier_of, inside, is_within, IsCanonical, IsFrontOf}
use Rattle.fw_frontier.proofs.CanonicalLaws.{in_domain-canonical}
use Rattle.fw_frontier.proofs.NamesLaws.{names-same}
use Rattle.fw_flow.specs.declared.choice.Choice.{Choice}
use Rattle.fw_flow.specs.declared.choice.Cut.{Cut}
use Rattle.fw_flow.specs.declared.choice.Cut.TheVariants.{Present, At}
use Rattle.fw_flow.specs.declared.choice.Offer.{Offer}
use Rattle.fw_flow.specs.declared.choice.Offered.{Offered}
use Rattle.fw_flow.specs.declared.choice.Offered.TheVariants as form
use Rattle.fw_flow.specs.declared.choice.Recorded.{Recorded}
use Rattle.fw_flow.specs.declared.side.Side.{Side}
use Rattle.fw_flow.specs.declared.side.Limit.{Limit}
use Rattle.fw_flow.specs.declared.side.Inclusion.{Inclusion}
use Rattle.fw_flow.specs.declared.side.Inclusion.TheVariants.{OfCut, OfNote}
use Rattle.fw_flow.specs.declared.trail.Lowering.{Lowering}
use Rattle.fw_flow.specs.Dataflow.{Dataflow, bounds_of}
use Rattle.fw_flow.specs.WellFormed.{IsWellFormed}
use Rattle.fw_model.specs.Machine.{front_of}
use Rattle.fw_model.specs.Choice.{IsCanonicalCut, IsChoiceOf, IsCutWithin, IsLargestBy, cut_of}
use Rattle.fw_model.specs.Inclusions.{Holds, IsInclusionOf, IsSideOfFlow, inclusions, left_of, limit_of, node_of, note_node, owner, right_of, side_bounds}
use Rattle.fw_model.specs.Certificates.{IsCertificate, IsDeadEnd, IsGreatestOffered}
use Rattle.fw_model.specs.Lowerings.{IsGreatestLeft, choice_of, lowering_of, part_of}
use Rattle.fw_model.specs.Offers.{AreOffersOf, IsListed, IsOffered, can_stay, covers_of, offered_by}
use Rattle.fw_model.proofs.InclusionLaws.{owner-there, same_each}
use Rattle.fw_offers.specs.Sides.{IsLeft}
use Rattle.fw_certify.specs.Checked.{AreCanonicalFronts, HoldsEachLeft, IsAnyLeft, IsGreatestFront, IsGreatestOfLeft, IsHeld, IsMeetOf, IsToLower, IsValueJudged, IsVerdict, other_tests, said_inclusion, tests_of}
use Rattle.fw_certify.specs.Followed.{IsFollowed, IsNoneLeft}
use Rattle.fw_certify.specs.declared.begin.Values.{Values}
use Rattle.fw_certify.specs.declared.checker.Followed.{Followed}
use Rattle.fw_certify.specs.declared.checker.Followed.TheVariants.{Nowhere, Wrong, Through}
use Rattle.fw_certify.specs.declared.checker.Verdict.{Verdict}
use Rattle.fw_certify.specs.declared.checker.Verdict.TheVariants.{Yes, No}
use Rattle.fw_certify.proofs.CertificateLaws.{certificate-largest}
use Rattle.fw_certify.proofs.FollowLaws.{certificate-is, dead_end-is, dead_end-nowhere, dead_end-wrong, verdict-end, verdict-wrong}
use Rattle.fw_certify.proofs.BeginLaws.{batches-greatest, batches-none, between-greatest, between-none, found_back, front-greatest, front-none, listed-greatest, listed-none, none_back, present-greatest}
use Rattle.fw_certify.proofs.EntryLaws.{said-one, said-told}
use Rattle.fw_certify.proofs.LeftLaws.{all-left, greatest-at, greatest-present, offered-fronts, records-held}
use Rattle.fw_certify.proofs.JudgeLaws.{cut_greatest-is, cut_left-is, meet-is, note-present, note_greatest-is}

-- ---- entries

pub other_flow-untold : (flow : Dataflow) (l : Lowering) (j : Inclusion) (r : Bool) → j ≡ said_inclusion l.node l.by → r ≡ false → ((r ≡ true) ↔ IsInclusionOf flow j)
    → (i : Inclusion) → IsInclusionOf flow i → l ≡ lowering_of flow i l.to → ⊥
other_flow-untold flow l j r is e k i there told = both_ways r e (k.1 (subst (IsInclusionOf flow) (said-one flow l i told ∙ sym is) there))

pub other_node-untold : (flow : Dataflow) (l : Lowering) (j : Inclusion) (n : ℕ) (r : Bool) → j ≡ said_inclusion l.node l.by → n ≡ node_of flow j → r ≡ (n == l.node) → r ≡ false
    → (i : Inclusion) → IsInclusionOf flow i → l ≡ lowering_of flow i l.to → ⊥
other_node-untold flow l j n r is at test e i there told =
    let same : l.node ≡ n = ap (λ (x : Lowering). x.node) told ∙ ap (node_of flow) (said-one flow l i told ∙ sym is) ∙ sym at in
    eqb-false n l.node (sym test ∙ e) (sym same)

pub other_part-untold : (flow : Dataflow) (l : Lowering) (j : Inclusion) (r : Bool) → j ≡ said_inclusion l.node l.by → r ≡ false → ((r ≡ true) ↔ (l.part ≡ part_of j))
    → (i : Inclusion) → IsInclusionOf flow i → l ≡ lowering_of flow i l.to → ⊥
other_part-untold flow l j r is e k i there told = both_ways r e (k.1 (ap (λ (x : Lowering). x.part) told ∙ ap part_of (said-one flow l i told ∙ sym is)))

pub entry-told : (flow : Dataflow) (l : Lowering) (j : Inclusion) (n : ℕ) (r s t : Bool) → j ≡ said_inclusion l.node l.by → r ≡ true → ((r ≡ true) ↔ IsInclusionOf flow j) → n ≡ node_of flow j
    → s ≡ (n == l.node) → s ≡ true → t ≡ true → ((t ≡ true) ↔ (l.part ≡ part_of j)) → IsInclusionOf flow j × (l ≡ lowering_of flow j l.to)
entry-told flow l j n r s t is e k at test f g h = (k.0 e, said-told flow l j is (sym at ∙ eqb-true n l.node (sym test ∙ f)) (h.0 g))

-- ---- cuts

-- whether a cut lies within another, by the variants
pub present-within : (flow : Dataflow) (p : ℕ) (x y : Cut) → x ≡ Present → y ≡ Present → (true ≡ true) ↔ IsCutWithin flow p x y
present-within flow p x y e f = (λ h. subst (λ z. IsCutWithin flow p x z) (sym f) (subst (λ z. IsCutWithin flow p z Present) (sym e) tt), λ w. refl)

pub present-outside : (flow : Dataflow) (p : ℕ) (x y : Cut) (g : Front) → x ≡ Present → y ≡ At g → (false ≡ true) ↔ IsCutWithin flow p x y
present-outside flow p x y g e f = (
  λ h. absurd (cc),
  λ w. let none : IsCutWithin flow p Present (At g) = subst (λ z. IsCutWithin flow p z (At g)) e (subst (λ z. IsCutWithin flow p x z) f w) in absurd none,
)

pub front-within : (flow : Dataflow) (p : ℕ) (x y : Cut) (f : Front) (r : Bool) → x ≡ At f → ((r ≡ true) ↔ IsCutWithin flow p (At f) y) → (r ≡ true) ↔ IsCutWithin flow p x y
front-within flow p x y f r e k = subst (λ z. (r ≡ true) ↔ IsCutWithin flow p z y) (sym e) k

pub inside-present : (flow : Dataflow) (p : ℕ) (x : Cut) (y : Cut) → y ≡ Present → (true ≡ true) ↔ IsCutWithin flow p x y
inside-present flow p x y e = (λ h. subst (IsCutWithin flow p x) (sym e) tt, λ w. refl)

pub inside-front : (flow : Dataflow) (p : ℕ) (f g : Front) (y : Cut) (r : Bool) → y ≡ At g → IsCanonicalCut (bounds_of flow p) y
    → ((b : Bounds) → IsCanonical b g → (r ≡ true) ↔ Within (frontier_of b f) (frontier_of b g)) → (r ≡ true) ↔ IsCutWithin flow p (At f) y
inside-front flow p f g y r e canonical k =
    let c : IsCanonical (bounds_of flow p) g = subst (IsCanonicalCut (bounds_of flow p)) e canonical in
    subst (λ z. (r ≡ true) ↔ IsCutWithin flow p (At f) z) (sym e) (k (bounds_of flow p) c)

-- ---- canonical cuts

pub present-canonical : (b : Bounds) (x : Cut) → x ≡ Present → (true ≡ true) ↔ IsCanonicalCut b x
present-canonical b x e = (λ h. subst (IsCanonicalCut b) (sym e) tt, λ c. refl)

-- what a frontier's own stamps spell is the frontier exactly where it is canonical
pub spelled-canonical : (b : Bounds) (f g os : Front) (found : Option Front) (r : Bool) → found ≡ Some g → os ≡ f → IfSome found (λ x. IsFrontOf b x (frontier_of b os)) → ((r ≡ true) ↔ (g ≡ f))
    → (r ≡ true) ↔ IsCanonical b f
spelled-canonical b f g os found r is same n k =
    let one : IsFrontOf b g (frontier_of b os) = subst (λ o. IfSome o (λ x. IsFrontOf b x (frontier_of b os))) is n in
    let named : IsFrontOf b g (frontier_of b f) = subst (λ ys. IsFrontOf b g (frontier_of b ys)) same one in
    ((λ h. subst (IsCanonical b) (k.0 h) named.canonical), (λ c. k.1 (names-same b g f (frontier_of b f) named (record { canonical = c; same = λ t. refl }))))

pub unspelled-canonical : (b : Bounds) (f os : Front) (found : Option Front) → found ≡ None → os ≡ f → IsSome found ↔ AllByRecursion (λ s. in_domain b s ≡ true) os → (false ≡ true) ↔ IsCanonical b f
unspelled-canonical b f os found is same k =
    let none : IsSome {T = Front} None ↔ AllByRecursion (λ s. in_domain b s ≡ true) os = subst (λ o. IsSome o ↔ AllByRecursion (λ s. in_domain b s ≡ true) os) is k in
    ((λ h. absurd (cc)), (λ c. let off : false ≡ true = none.1 (subst (AllByRecursion (λ s. in_domain b s ≡ true)) (sym same) (in_domain-canonical b f c)) in absurd (cc)))

pub at-canonical : (b : Bounds) (x : Cut) (f : Front) (r : Bool) → x ≡ At f → ((r ≡ true) ↔ IsCanonical b f) → (r ≡ true) ↔ IsCanonicalCut b x
at-canonical b x f r e k = subst (λ z. (r ≡ true) ↔ IsCanonicalCut b z) (sym e) k

-- ---- values

pub of_values : (P : Choice → Type 0) (cuts xs : List Cut) (notices ys : List Front) → xs ≡ cuts → ys ≡ notices → P (choice_of xs ys) → P (choice_of cuts notices)
of_values P cuts xs notices ys e f k = subst (λ zs. P (choice_of zs notices)) e (subst (λ zs. P (choice_of xs zs)) f k)

-- whether a side is met, by what passes
pub met-is : (flow : Dataflow) (offers : List Offer) (side : Side) (choice : Choice) (bound : Front) (x : Cut) (r : Bool)
    → IsFrontOf (side_bounds flow side) bound (right_of flow (covers_of flow offers) side choice) → x ≡ cut_of choice (owner flow side)
    → ((r ≡ true) ↔ Within (left_of (covers_of flow offers) side x) (frontier_of (side_bounds flow side) bound)) → (r ≡ true) ↔ Holds flow (covers_of flow offers) choice (OfCut side)
met-is flow offers side choice bound x r n e k =
    let covers = covers_of flow offers in
    let test = subst (λ y. (r ≡ true) ↔ Within (left_of covers side y) (frontier_of (side_bounds flow side) bound)) e k in
    ((λ h t i. sym (n.same t) ∙ test.0 h t i), (λ w. test.1 (λ t i. n.same t ∙ w t i)))

pub kept-is : (flow : Dataflow) (offers : List Offer) (limit : Limit) (choice : Choice) (bound f : Front) (r : Bool)
    → IsFrontOf (bounds_of flow (note_node flow limit)) bound (limit_of flow (covers_of flow offers) limit choice) → f ≡ front_of choice.notices (note_node flow limit)
    → ((b : Bounds) → IsCanonical b bound → (r ≡ true) ↔ Within (frontier_of b f) (frontier_of b bound)) → (r ≡ true) ↔ Holds flow (covers_of flow offers) choice (OfNote limit)
kept-is flow offers limit choice bound f r n e k =
    let b = bounds_of flow (note_node flow limit) in
    let test = subst (λ y. (r ≡ true) ↔ Within (frontier_of b y) (frontier_of b bound)) e (k b n.canonical) in
    ((λ h t i. sym (n.same t) ∙ test.0 h t i), (λ w. test.1 (λ t i. n.same t ∙ w t i)))

-- a side that fails does not lie within the front of its right side
pub fails-here : (flow : Dataflow) (offers : List Offer) (side : Side) (choice : Choice) (bound : Front) (x : Cut)
    → IsFrontOf (side_bounds flow side) bound (right_of flow (covers_of flow offers) side choice) → x ≡ cut_of choice (owner flow side)
    → (Holds flow (covers_of flow offers) choice (OfCut side) → ⊥) → Within (left_of (covers_of flow offers) side x) (frontier_of (side_bounds flow side) bound) → ⊥
fails-here flow offers side choice bound x n e fails w =
    fails (λ t i. sym (n.same t) ∙ subst (λ y. Within (left_of (covers_of flow offers) side y) (frontier_of (side_bounds flow side) bound)) e w t i)

-- a cut that is not the greatest left is refused, and one that is is taken
pub cut-refused : (flow : Dataflow) (offers : List Offer) (side : Side) (choice : Choice) (bound : Front) (x to : Cut) (r : Bool)
    → IsFrontOf (side_bounds flow side) bound (right_of flow (covers_of flow offers) side choice) → x ≡ cut_of choice (owner flow side) → r ≡ false
    → ((r ≡ true) ↔ IsGreatestOfLeft flow offers side x bound to) → IsValueJudged flow offers (OfCut side) to choice choice false
cut-refused flow offers side choice bound x to r n e off k = record {
  taken = λ h. absurd (cc);
  refused = λ h g. both_ways r off (k.1 (subst (λ y. IsGreatestOfLeft flow offers side y bound to) (sym e) ((cut_greatest-is flow offers side choice bound to n).1 g)));
}

pub cut-taken : (flow : Dataflow) (offers : List Offer) (side : Side) (cuts new : List Cut) (notices : List Front) (bound : Front) (p q : ℕ) (x to v : Cut) (r : Bool)
    → IsFrontOf (side_bounds flow side) bound (right_of flow (covers_of flow offers) side (choice_of cuts notices)) → x ≡ cut_of (choice_of cuts notices) (owner flow side) → r ≡ true
    → ((r ≡ true) ↔ IsGreatestOfLeft flow offers side x bound to) → p ≡ owner flow side → q ≡ p → v ≡ to → new ≡ set cuts q v
    → IsValueJudged flow offers (OfCut side) to (choice_of cuts notices) (choice_of new notices) true
cut-taken flow offers side cuts new notices bound p q x to v r n e on k at place same is = record {
  taken = λ h. (
    (cut_greatest-is flow offers side (choice_of cuts notices) bound to n).0 (subst (λ y. IsGreatestOfLeft flow offers side y bound to) e (k.0 on)),
    ap (λ xs. choice_of xs notices) (is ∙ ap (λ i. set cuts i v) (place ∙ at) ∙ ap (set cuts (owner flow side)) same),
  );
  refused = λ h. absurd (cc);
}

pub note-absent : (flow : Dataflow) (offers : List Offer) (limit : Limit) (choice : Choice) (to : Cut) → to ≡ Present → IsValueJudged flow offers (OfNote limit) to choice choice false
note-absent flow offers limit choice to e = record { taken = λ h. absurd (cc); refused = λ h. note-present flow offers limit choice to e }

pub note-refused : (flow : Dataflow) (offers : List Offer) (limit : Limit) (choice : Choice) (bound f g : Front) (to : Cut) (r : Bool) → to ≡ At f → IsCanonicalCut (bounds_of flow (note_node flow limit)) to
    → IsCanonical (bounds_of flow (note_node flow limit)) (front_of choice.notices (note_node flow limit))
    → IsFrontOf (bounds_of flow (note_node flow limit)) bound (limit_of flow (covers_of flow offers) limit choice) → g ≡ front_of choice.notices (note_node flow limit) → r ≡ false
    → ((b : Bounds) → IsCanonical b f → IsCanonical b g → IsCanonical b bound → (r ≡ true) ↔ IsMeetOf b g bound f) → IsValueJudged flow offers (OfNote limit) to choice choice false
note-refused flow offers limit choice bound f g to r is canonical old n e off k = record {
  taken = λ h. absurd (cc);
  refused = λ h j.
      let b = bounds_of flow (note_node flow limit) in
      let c : IsCanonical b f = subst (IsCanonicalCut b) is canonical in
      let test = k b c (subst (IsCanonical b) (sym e) old) n.canonical in
      both_ways r off (test.1 (subst (λ x. IsMeetOf b x bound f) (sym e)
      ((note_greatest-is flow offers limit choice bound f c n).1 (subst (IsGreatestLeft flow (covers_of flow offers) (IsOffered flow offers) choice (OfNote limit)) is j))));
}

pub note-taken : (flow : Dataflow) (offers : List Offer) (limit : Limit) (cuts : List Cut) (notices new : List Front) (bound f g v : Front) (to : Cut) (p q : ℕ) (r : Bool) → to ≡ At f
    → IsCanonicalCut (bounds_of flow (note_node flow limit)) to → IsCanonical (bounds_of flow (note_node flow limit)) (front_of notices (note_node flow limit))
    → IsFrontOf (bounds_of flow (note_node flow limit)) bound (limit_of flow (covers_of flow offers) limit (choice_of cuts notices)) → g ≡ front_of notices (note_node flow limit) → r ≡ true
    → ((b : Bounds) → IsCanonical b f → IsCanonical b g → IsCanonical b bound → (r ≡ true) ↔ IsMeetOf b g bound f) → p ≡ note_node flow limit → q ≡ p → v ≡ f → new ≡ set notices q v
    → IsValueJudged flow offers (OfNote limit) to (choice_of cuts notices) (choice_of cuts new) true
note-taken flow offers limit cuts notices new bound f g v to p q r is canonical old n e on k at place same put =
    let b = bounds_of flow (note_node flow limit) in
    let c : IsCanonical b f = subst (IsCanonicalCut b) is canonical in
    let test = k b c (subst (IsCanonical b) (sym e) old) n.canonical in
    let whole : IsValueJudged flow offers (OfNote limit) (At f) (choice_of cuts notices) (choice_of cuts new) true = record {
      taken = λ h. (
        (note_greatest-is flow offers limit (choice_of cuts notices) bound f c n).0 (subst (λ x. IsMeetOf b x bound f) e (test.0 on)),
        ap (choice_of cuts) (put ∙ ap (λ i. set notices i v) (place ∙ at) ∙ ap (set notices (note_node flow limit)) same),
      );
      refused = λ h. absurd (cc);
    } in
    subst (λ x. IsValueJudged flow offers (OfNote limit) x (choice_of cuts notices) (choice_of cuts new) true) (sym is) whole

-- the value of an entry is of the domain of the node that its inclusion is of
pub entry_canonical : (flow : Dataflow) (l : Lowering) (i j : Inclusion) (b : Bounds) (r : Bool) → i ≡ j → l ≡ lowering_of flow i l.to → b ≡ bounds_of flow l.node → r ≡ true
    → ((r ≡ true) ↔ IsCanonicalCut b l.to) → IsCanonicalCut (bounds_of flow (node_of flow j)) l.to
entry_canonical flow l i j b r same told at e k =
    subst (λ c. IsCanonicalCut c l.to) (at ∙ ap (bounds_of flow) (ap (λ (x : Lowering). x.node) told ∙ ap (node_of flow) same)) (k.0 e)

-- meets
pub not_meet-first : (b : Bounds) (one other f : Front) (r : Bool) → r ≡ false → ((r ≡ true) ↔ Within (frontier_of b f) (frontier_of b one)) → (false ≡ true) ↔ IsMeetOf b one other f
not_meet-first b one other f r e k = ((λ h. absurd (cc)), (λ m. absurd (both_ways r e (k.1 m.first))))

pub not_meet-second : (b : Bounds) (one other f : Front) (r : Bool) → r ≡ false → ((r ≡ true) ↔ Within (frontier_of b f) (frontier_of b other)) → (false ≡ true) ↔ IsMeetOf b one other f
not_meet-second b one other f r e k = ((λ h. absurd (cc)), (λ m. absurd (both_ways r e (k.1 m.second))))

pub meet-tested : (b : Bounds) (one other f : Front) (r : Bool) → IsCanonical b f → Within (frontier_of b f) (frontier_of b one) → Within (frontier_of b f) (frontier_of b other)
    → r ≡ list_all (λ o. not (inside one o) || not (inside other o)) f → (r ≡ true) ↔ IsMeetOf b one other f
meet-tested b one other f r c v w is =
    let k = meet-is b one other f c v w in
    ((λ h. k.0 (sym is ∙ h)), (λ m. is ∙ k.1 m))

-- values and choices
pub other-cuts : (cuts : List Cut) (notices : List Front) (choice : Choice) (r : Bool) (xs ys : List Cut) → xs ≡ cuts → ys ≡ choice.cuts → r ≡ false → ((r ≡ true) ↔ (xs ≡ ys))
    → (false ≡ true) ↔ (choice_of cuts notices ≡ choice)
other-cuts cuts notices choice r xs ys e f off k = ((λ h. absurd (cc)), (λ same. absurd (both_ways r off (k.1 (e ∙ ap (λ (x : Choice). x.cuts) same ∙ sym f)))))

pub same-values : (cuts : List Cut) (notices : List Front) (choice : Choice) (r s : Bool) (xs ys : List Cut) (fs gs : List Front) → xs ≡ cuts → ys ≡ choice.cuts → fs ≡ notices → gs ≡ choice.notices
    → r ≡ true → ((r ≡ true) ↔ (xs ≡ ys)) → ((s ≡ true) ↔ (fs ≡ gs)) → (s ≡ true) ↔ (choice_of cuts notices ≡ choice)
same-values cuts notices choice r s xs ys fs gs e f g h on k m =
    let whole : choice_of choice.cuts choice.notices ≡ choice = refl in (
      (λ t. ap (λ cs. choice_of cs notices) (sym e ∙ k.0 on ∙ f) ∙ ap (choice_of choice.cuts) (sym g ∙ m.0 t ∙ h) ∙ whole),
      (λ same. m.1 (g ∙ ap (λ (x : Choice). x.notices) same ∙ sym h)),
    )

-- ---- what is left

pub node-offers : (flow : Dataflow) (offers : List Offer) (side : Side) (from : Cut) (bound : Front) (p : ℕ) → p ≡ owner flow side → IsWellFormed flow → IsToLower flow offers side from bound → p < length offers
node-offers flow offers side from bound p e well k =
    let l : owner flow side < length flow.nodes = owner-there flow side well k.there in
    let n = k.offers_fit.one_each in
    omega (arith, e)

pub offered-is : (flow : Dataflow) (offers : List Offer) (side : Side) (from : Cut) (bound : Front) (x : Cut) (p : ℕ) (r : Bool) → p ≡ owner flow side → IsWellFormed flow → IsToLower flow offers side from bound
    → IsCanonicalCut (bounds_of flow (owner flow side)) x
    → ((f : Dataflow) → AreOffersOf f offers → p < length f.nodes → IsCanonicalCut (bounds_of f p) x → (r ≡ true) ↔ IsOffered f offers p x) → (r ≡ true) ↔ IsOffered flow offers p x
offered-is flow offers side from bound x p r e well k c test =
    test flow k.offers_fit (subst (λ q. q < length flow.nodes) (sym e) (owner-there flow side well k.there)) (subst (λ q. IsCanonicalCut (bounds_of flow q) x) (sym e) c)

pub not_left-greatest : (flow : Dataflow) (offers : List Offer) (side : Side) (from : Cut) (bound : Front) (to : Cut) (r : Bool) → r ≡ false → ((r ≡ true) ↔ IsLeft flow offers side from bound to)
    → (false ≡ true) ↔ IsGreatestOfLeft flow offers side from bound to
not_left-greatest flow offers side from bound to r e k = (λ h. absurd (cc), λ g. absurd (both_ways r e (k.1 g.left)))

pub present-is_greatest : (flow : Dataflow) (offers : List Offer) (side : Side) (from : Cut) (bound : Front) (to : Cut) (r : Bool) → to ≡ Present → r ≡ true → ((r ≡ true) ↔ IsLeft flow offers side from bound to)
    → (true ≡ true) ↔ IsGreatestOfLeft flow offers side from bound to
present-is_greatest flow offers side from bound to r is e k = (
  λ h. subst (IsGreatestOfLeft flow offers side from bound) (sym is) (greatest-present flow offers side from bound (subst (IsLeft flow offers side from bound) is (k.0 e))),
  λ g. refl,
)

pub left-at : (flow : Dataflow) (offers : List Offer) (side : Side) (from : Cut) (bound f : Front) (to : Cut) (r : Bool) → to ≡ At f → r ≡ true → ((r ≡ true) ↔ IsLeft flow offers side from bound to)
    → IsLeft flow offers side from bound (At f)
left-at flow offers side from bound f to r is e k = subst (IsLeft flow offers side from bound) is (k.0 e)

pub front-is_greatest : (flow : Dataflow) (offers : List Offer) (side : Side) (from : Cut) (bound f : Front) (to : Cut) (r s : Bool) → to ≡ At f → r ≡ true → ((r ≡ true) ↔ IsLeft flow offers side from bound to)
    → (Within (left_of (covers_of flow offers) side from) (frontier_of (side_bounds flow side) bound) → ⊥)
    → ((s ≡ true) ↔ HoldsEachLeft flow offers side from bound f) → (s ≡ true) ↔ IsGreatestOfLeft flow offers side from bound to
front-is_greatest flow offers side from bound f to r s is e k fails h =
    subst (λ x. (s ≡ true) ↔ IsGreatestOfLeft flow offers side from bound x) (sym is)
    ((λ y. greatest-at flow offers side from bound f fails (left-at flow offers side from bound f to r is e k) (h.0 y)), (λ g. h.1 (λ x l. g.greatest (At x) l)))

pub listed-fronts : (flow : Dataflow) (offers : List Offer) (side : Side) (from : Cut) (bound : Front) (p : ℕ) (x : Offered) (rs s : List Recorded) → p ≡ owner flow side → IsWellFormed flow
    → IsToLower flow offers side from bound → x ≡ offered_by offers p → x ≡ form.Listed rs → s ≡ rs → AllByRecursion (λ r. IsCanonical (bounds_of flow (owner flow side)) r.front) s
listed-fronts flow offers side from bound p x rs s e well k is listed same =
    let fronts = offered-fronts flow offers (owner flow side) k.offers_fit (owner-there flow side well k.there) in
    let here : AreCanonicalFronts (bounds_of flow (owner flow side)) (form.Listed rs) = subst (AreCanonicalFronts (bounds_of flow (owner flow side))) (sym (is ∙ ap (offered_by offers) e) ∙ listed) fronts in
    subst (AllByRecursion (λ r. IsCanonical (bounds_of flow (owner flow side)) r.front)) (sym same) here

pub offered-here : (flow : Dataflow) (offers : List Offer) (side : Side) (p : ℕ) (x y : Offered) → p ≡ owner flow side → x ≡ offered_by offers p → x ≡ y → offered_by offers (owner flow side) ≡ y
offered-here flow offers side p x y e is same = sym (is ∙ ap (offered_by offers) e) ∙ same

pub records-are_held : (flow : Dataflow) (offers : List Offer) (side : Side) (from : Cut) (bound f : Front) (rs s : List Recorded) (r : Bool) → offered_by offers (owner flow side) ≡ form.Listed rs → s ≡ rs
    → AllByRecursion (λ r. IsCanonical (bounds_of flow (owner flow side)) r.front) s
    → ((r ≡ true) ↔ AllByRecursion (λ r. IsHeld flow offers side from bound f r.front) s) → (r ≡ true) ↔ HoldsEachLeft flow offers side from bound f
records-are_held flow offers side from bound f rs s r is same canonical k =
    let held = records-held flow offers side from bound f s (is ∙ ap form.Listed (sym same)) canonical in
    ((λ h. held.0 (k.0 h)), (λ h. k.1 (held.1 h)))

pub both-are : (P Q : Type 0) (r : Bool) → P ↔ Q → ((r ≡ true) ↔ P) → (r ≡ true) ↔ Q
both-are P Q r h k = ((λ e. h.0 (k.0 e)), (λ q. k.1 (h.1 q)))

-- where all is left and f is not all, not each that is left lies within f
pub all-is_beyond : (flow : Dataflow) (offers : List Offer) (side : Side) (from : Cut) (bound f : Front) (exhausted r s : Bool) → IsCanonical (bounds_of flow (owner flow side)) f → s ≡ false
    → ((s ≡ true) ↔ (f ≡ [])) → r ≡ true → ((r ≡ true) ↔ (exhausted ≡ true) × IsLeft flow offers side from bound (At [])) → (false ≡ true) ↔ HoldsEachLeft flow offers side from bound f
all-is_beyond flow offers side from bound f exhausted r s c off all e k =
    ((λ h. absurd (cc)), (λ h. absurd (all-left flow offers side from bound f c (λ i. both_ways s off (all.1 i)) (k.0 e).1 h)))

pub all-of_exhausted : (flow : Dataflow) (offers : List Offer) (side : Side) (from : Cut) (bound f : Front) (x : Cut) (exhausted r : Bool) → exhausted ≡ true → x ≡ At f → f ≡ []
    → ((r ≡ true) ↔ IsLeft flow offers side from bound x) → (r ≡ true) ↔ (exhausted ≡ true) × IsLeft flow offers side from bound (At [])
all-of_exhausted flow offers side from bound f x exhausted r e is all k =
    let here : (r ≡ true) ↔ IsLeft flow offers side from bound (At []) = subst (λ g. (r ≡ true) ↔ IsLeft flow offers side from bound (At g)) all (subst (λ y. (r ≡ true) ↔ IsLeft flow offers side from bound y) is k) in
    ((λ h. (e, here.0 h)), (λ h. here.1 h.1))

-- the cover of one stamp
pub cover-named : (b d : Bounds) (os : List Stamp) (o : Stamp) (x : Front) → d ≡ b → os ≡ o ∷ [] → in_domain b o ≡ true
    → (AllByRecursion (λ s. in_domain d s ≡ true) os → IsFrontOf d x (cover d os)) → IsFrontOf b x (cover b (o ∷ []))
cover-named b d os o x e is k named =
    let here : (AllByRecursion (λ s. in_domain b s ≡ true) (o ∷ []) → IsFrontOf b x (cover b (o ∷ []))) =
    subst (λ c. AllByRecursion (λ s. in_domain c s ≡ true) (o ∷ []) → IsFrontOf c x (cover c (o ∷ []))) e
    (subst (λ ss. AllByRecursion (λ s. in_domain d s ≡ true) ss → IsFrontOf d x (cover d ss)) is named) in
    here (k, tt)

pub some-left : (flow : Dataflow) (offers : List Offer) (side : Side) (from : Cut) (bound : Front) (x : Cut) (r : Bool) → r ≡ true → ((r ≡ true) ↔ IsLeft flow offers side from bound x)
    → (true ≡ true) ↔ IsAnyLeft flow offers side from bound
some-left flow offers side from bound x r e k = ((λ h. (x, k.0 e)), (λ h. refl))

pub none-is : (flow : Dataflow) (offers : List Offer) (side : Side) (from : Cut) (bound : Front) (x y : Cut) (r : Bool) → x ≡ y → r ≡ false → ((r ≡ true) ↔ IsLeft flow offers side from bound x)
    → IsLeft flow offers side from bound y → ⊥
none-is flow offers side from bound x y r is e k left = both_ways r e (k.1 (subst (IsLeft flow offers side from bound) (sym is) left))

-- whether the last of those that can be left is left decides whether any is
pub last-left : (flow : Dataflow) (offers : List Offer) (side : Side) (from : Cut) (bound : Front) (x y : Cut) (r : Bool) → x ≡ y → ((IsLeft flow offers side from bound y → ⊥) → IsAnyLeft flow offers side from bound → ⊥)
    → ((r ≡ true) ↔ IsLeft flow offers side from bound x) → (r ≡ true) ↔ IsAnyLeft flow offers side from bound
last-left flow offers side from bound x y true is none k = ((λ h. (x, k.0 refl)), (λ h. refl))
last-left flow offers side from bound x y false is none k =
    ((λ h. absurd (cc)), (λ h. absurd (none (none-is flow offers side from bound x y false is refl k) h)))

pub records-left : (P : Type 0) (Q : List Recorded → Type 0) (rs s : List Recorded) (r : Bool) → s ≡ rs → (Q rs → P → ⊥) → ((r ≡ true → P) × (r ≡ false → Q s)) → (r ≡ true) ↔ P
records-left P Q rs s true same none k = ((λ h. k.0 refl), (λ h. refl))
records-left P Q rs s false same none k = ((λ h. absurd (cc)), (λ h. absurd (none (subst Q same (k.1 refl)) h)))

-- the ends of what is offered are canonical
pub range-ends : (flow : Dataflow) (offers : List Offer) (side : Side) (from : Cut) (bound : Front) (x : Offered) → IsWellFormed flow → IsToLower flow offers side from bound
    → offered_by offers (owner flow side) ≡ x → AreCanonicalFronts (bounds_of flow (owner flow side)) x
range-ends flow offers side from bound x well k is =
    subst (AreCanonicalFronts (bounds_of flow (owner flow side))) is (offered-fronts flow offers (owner flow side) k.offers_fit (owner-there flow side well k.there))

-- ---- the greatest cut of a node

pub present-cut : (flow : Dataflow) (offers : List Offer) (p : ℕ) (r : Bool) → r ≡ can_stay offers p → r ≡ true → IsGreatestOffered flow (IsOffered flow offers) p Present
present-cut flow offers p r is e = present-greatest flow offers p (sym is ∙ e)

pub front-cut : (flow : Dataflow) (offers : List Offer) (p : ℕ) (f : Front) (r : Bool) (x : Offered) → AreOffersOf flow offers → p < length flow.nodes → r ≡ can_stay offers p → r ≡ false
    → x ≡ offered_by offers p → ((b : Bounds) → AreCanonicalFronts b x → IsGreatestFront b x f) → IsGreatestOffered flow (IsOffered flow offers) p (At f)
front-cut flow offers p f r x a l is e same k =
    front-greatest flow offers p f (sym is ∙ e)
    (subst (λ y. IsGreatestFront (bounds_of flow p) y f) same (k (bounds_of flow p) (subst (AreCanonicalFronts (bounds_of flow p)) (sym same) (offered-fronts flow offers p a l))))

pub front-no_cut : (flow : Dataflow) (offers : List Offer) (p : ℕ) (r : Bool) (x : Offered) → AreOffersOf flow offers → p < length flow.nodes → r ≡ can_stay offers p → r ≡ false
    → x ≡ offered_by offers p → ((b : Bounds) → AreCanonicalFronts b x → (f : Front) → IsGreatestFront b x f → ⊥) → (cut : Cut) → IsGreatestOffered flow (IsOffered flow offers) p cut → ⊥
front-no_cut flow offers p r x a l is e same k cut =
    front-none flow offers p cut (sym is ∙ e)
    (λ f g. k (bounds_of flow p) (subst (AreCanonicalFronts (bounds_of flow p)) (sym same) (offered-fronts flow offers p a l)) f (subst (λ y. IsGreatestFront (bounds_of flow p) y f) (sym same) g))

-- ---- the entries

pub at_place : (ls : List Lowering) (i : ℕ) (l : Lowering) → i < length ls → l ≡ get_or ls i l → slice_get ls i ≡ Some l
at_place [] i l m e = absurd (omega arith)
at_place (x ∷ ls) zero l m e = ap Some (sym e)
at_place (x ∷ ls) (suc i) l m e = at_place ls i l (omega arith) e

tests-append : (offers : List Offer) (ls : List Lowering) (l : Lowering) → tests_of offers (ls ++ l ∷ []) ≡ tests_of offers ls + (3 + other_tests (offered_by offers l.node) l.to)
tests-append offers [] l = omega arith
tests-append offers (x ∷ ls) l = let rest = tests-append offers ls l in omega arith

-- one more entry, and its tests
pub tests-more : (offers : List Offer) (ls : List Lowering) (i : ℕ) (l : Lowering) → i < length ls → l ≡ get_or ls i l
    → tests_of offers (take (i + 1) ls) ≡ tests_of offers (take i ls) + (3 + other_tests (offered_by offers l.node) l.to)
tests-more offers ls i l m e = ap (tests_of offers) (take_more ls i l m ∙ ap (λ y. take i ls ++ y ∷ []) (sym e)) ∙ tests-append offers (take i ls) l

tests-prefix : (offers : List Offer) (ls : List Lowering) (i : ℕ) → tests_of offers (take i ls) ≤ tests_of offers ls
tests-prefix offers ls zero = omega arith
tests-prefix offers [] (suc i) = omega arith
tests-prefix offers (x ∷ ls) (suc i) = let rest = tests-prefix offers ls i in omega arith

pub tests-so_far : (offers : List Offer) (ls : List Lowering) (i : ℕ) (l : Lowering) → i < length ls → l ≡ get_or ls i l
    → tests_of offers (take i ls) + (3 + other_tests (offered_by offers l.node) l.to) ≤ tests_of offers ls
tests-so_far offers ls i l m e = let more = tests-more offers ls i l m e in let all = tests-prefix offers ls (i + 1) in omega arith

-- ---- dead ends

pub none-left : (flow : Dataflow) (offers : List Offer) (side : Side) (choice : Choice) (bound : Front) (x : Cut) (r s : Bool)
    → IsFrontOf (side_bounds flow side) bound (right_of flow (covers_of flow offers) side choice) → x ≡ cut_of choice (owner flow side)
    → ((r ≡ true) ↔ IsAnyLeft flow offers side x bound) → s ≡ not r → (s ≡ true) ↔ IsNoneLeft flow offers side choice
none-left flow offers side choice bound x true s n e k is = (
  λ h. absurd (cc),
  λ none. let some = subst (λ y. IsAnyLeft flow offers side y bound) e (k.0 refl) in absurd (none some.0 ((cut_left-is flow offers side choice bound some.0 n).1 some.1)),
)
none-left flow offers side choice bound x false s n e k is = (
  λ h y left.
      let back : false ≡ true = k.1 (y, subst (λ z. IsLeft flow offers side z bound y) (sym e) ((cut_left-is flow offers side choice bound y n).0 left)) in
      absurd (cc),
  λ none. is,
)

-- ---- verdicts

-- the choice of values
abbrev pub choice_at : Values → Choice
choice_at values = choice_of values.cuts.items values.notices.items

followed-as : (flow : Dataflow) (offers : List Offer) (ls xs : List Lowering) (f g : Followed) → xs ≡ ls → f ≡ g → IsFollowed flow offers xs f → IsFollowed flow offers ls g
followed-as flow offers ls xs f g e is k = subst (λ ys. IsFollowed flow offers ys g) e (subst (IsFollowed flow offers xs) is k)

pub verdict-nowhere : (flow : Dataflow) (offers : List Offer) (ls xs : List Lowering) (choice : Choice) (f : Followed) → xs ≡ ls → f ≡ Nowhere → IsFollowed flow offers xs f
    → IsVerdict flow (covers_of flow offers) (IsOffered flow offers) ls choice (No 0)
verdict-nowhere flow offers ls xs choice f e is k = inr (refl, followed-as flow offers ls xs f Nowhere e is k)

pub verdict-wrong_at : (flow : Dataflow) (offers : List Offer) (ls xs : List Lowering) (choice : Choice) (f : Followed) (at : ℕ) → xs ≡ ls → f ≡ Wrong at → IsFollowed flow offers xs f
    → IsVerdict flow (covers_of flow offers) (IsOffered flow offers) ls choice (No at)
verdict-wrong_at flow offers ls xs choice f at e is k = verdict-wrong flow offers ls choice at (followed-as flow offers ls xs f (Wrong at) e is k)

pub verdict-other : (flow : Dataflow) (offers : List Offer) (ls xs : List Lowering) (choice : Choice) (f : Followed) (values : Values) (n : ℕ) (r : Bool) → xs ≡ ls → f ≡ Through values
    → IsFollowed flow offers xs f → n ≡ length ls → r ≡ false → ((r ≡ true) ↔ (choice_at values ≡ choice)) → IsVerdict flow (covers_of flow offers) (IsOffered flow offers) ls choice (No n)
verdict-other flow offers ls xs choice f values n r e is k l off h =
    verdict-end flow offers ls choice (choice_at values) n l (followed-as flow offers ls xs f (Through values) e is k).0 (λ both. both_ways r off (h.1 both.0))

pub verdict-fails : (flow : Dataflow) (offers : List Offer) (ls xs : List Lowering) (choice : Choice) (f : Followed) (values : Values) (n : ℕ) (r : Bool) → xs ≡ ls → f ≡ Through values
    → IsFollowed flow offers xs f → n ≡ length ls → r ≡ false → ((r ≡ true) ↔ AllByRecursion (Holds flow (covers_of flow offers) (choice_at values)) (inclusions flow))
    → IsVerdict flow (covers_of flow offers) (IsOffered flow offers) ls choice (No n)
verdict-fails flow offers ls xs choice f values n r e is k l off h =
    verdict-end flow offers ls choice (choice_at values) n l (followed-as flow offers ls xs f (Through values) e is k).0 (λ both. both_ways r off (h.1 both.1))

pub verdict-yes : (flow : Dataflow) (offers : List Offer) (ls xs : List Lowering) (choice : Choice) (f : Followed) (values : Values) (r s : Bool) → xs ≡ ls → f ≡ Through values
    → IsFollowed flow offers xs f → r ≡ true → ((r ≡ true) ↔ (choice_at values ≡ choice)) → s ≡ true
    → ((s ≡ true) ↔ AllByRecursion (Holds flow (covers_of flow offers) (choice_at values)) (inclusions flow))
    → IsCertificate flow (covers_of flow offers) (IsOffered flow offers) ls choice
verdict-yes flow offers ls xs choice f values r s e is k on h holds m =
    certificate-is flow offers ls choice (choice_at values) (followed-as flow offers ls xs f (Through values) e is k).0 (h.0 on) (m.0 holds)

pub through-of_flow : (flow : Dataflow) (offers : List Offer) (xs : List Lowering) (f : Followed) (values : Values) → f ≡ Through values → IsFollowed flow offers xs f → IsChoiceOf flow (choice_at values)
through-of_flow flow offers xs f values is k = (followed-as flow offers xs xs f (Through values) refl is k).1

pub largest-of_yes : (flow : Dataflow) (offers : List Offer) (ls : List Lowering) (choice : Choice) (v : Verdict) → IsWellFormed flow → IsVerdict flow (covers_of flow offers) (IsOffered flow offers) ls choice v
    → v ≡ Yes → IsLargestBy flow (covers_of flow offers) (IsOffered flow offers) choice
largest-of_yes flow offers ls choice v well k e = certificate-largest flow offers ls choice well (subst (IsVerdict flow (covers_of flow offers) (IsOffered flow offers) ls choice) e k)

-- ---- dead ends of lowerings that lead nowhere, to a wrong one, or through

pub no_dead_end : (flow : Dataflow) (offers : List Offer) (ls : List Lowering) (side : Side) (r : Bool) → r ≡ false → ((r ≡ true) ↔ IsSideOfFlow flow side)
    → (false ≡ true) ↔ IsDeadEnd flow (covers_of flow offers) (IsOffered flow offers) ls side
no_dead_end flow offers ls side r e k = ((λ h. absurd (cc)), (λ d. absurd (both_ways r e (k.1 d.of_flow))))

pub nowhere-no_dead_end : (flow : Dataflow) (offers : List Offer) (ls xs : List Lowering) (side : Side) (f : Followed) → xs ≡ ls → f ≡ Nowhere → IsFollowed flow offers xs f
    → (false ≡ true) ↔ IsDeadEnd flow (covers_of flow offers) (IsOffered flow offers) ls side
nowhere-no_dead_end flow offers ls xs side f e is k = ((λ h. absurd (cc)), (λ d. absurd (dead_end-nowhere flow offers ls side (followed-as flow offers ls xs f Nowhere e is k) d)))

pub wrong-no_dead_end : (flow : Dataflow) (offers : List Offer) (ls xs : List Lowering) (side : Side) (f : Followed) (at : ℕ) → xs ≡ ls → f ≡ Wrong at → IsFollowed flow offers xs f
    → (false ≡ true) ↔ IsDeadEnd flow (covers_of flow offers) (IsOffered flow offers) ls side
wrong-no_dead_end flow offers ls xs side f at e is k = ((λ h. absurd (cc)), (λ d. absurd (dead_end-wrong flow offers ls side at (followed-as flow offers ls xs f (Wrong at) e is k) d)))

pub through-dead_end : (flow : Dataflow) (offers : List Offer) (ls xs : List Lowering) (side : Side) (f : Followed) (values : Values) (r s : Bool) → xs ≡ ls → f ≡ Through values → IsFollowed flow offers xs f
    → s ≡ true → ((s ≡ true) ↔ IsSideOfFlow flow side) → ((r ≡ true) ↔ IsNoneLeft flow offers side (choice_at values))
    → (r ≡ true) ↔ IsDeadEnd flow (covers_of flow offers) (IsOffered flow offers) ls side
through-dead_end flow offers ls xs side f values r s e is k on there none =
    both-are (IsNoneLeft flow offers side (choice_at values)) (IsDeadEnd flow (covers_of flow offers) (IsOffered flow offers) ls side) r
    (dead_end-is flow offers ls side (choice_at values) (there.0 on) (followed-as flow offers ls xs f (Through values) e is k).0) none

-- ---- lists

-- what holds of each element holds of the one at a place
pub each-here : {A : Type 0} (P : A → Type 0) (xs : List A) (i : ℕ) (x : A) → i < length xs → x ≡ get_or xs i x → AllByRecursion P xs → P x
each-here P xs i x l is all = subst P (sym is) (each-at P xs i x l all)

-- lists of the same elements

pub other_lengths : {A : Type 0} (xs ys : List A) → (length xs ≡ length ys → ⊥) → (false ≡ true) ↔ (xs ≡ ys)
other_lengths xs ys n = ((λ h. absurd (cc)), (λ e. absurd (n (ap length e))))

pub differ-at : {A : Type 0} (xs ys : List A) (i : ℕ) (x y : A) (r : Bool) → i < length xs → i < length ys → x ≡ get_or xs i x → y ≡ get_or ys i y → r ≡ false → ((r ≡ true) ↔ (x ≡ y))
    → (false ≡ true) ↔ (xs ≡ ys)
differ-at xs ys i x y r l m e f off k =
    ((λ h. absurd (cc)), (λ same. absurd (both_ways r off (k.1 (e ∙ ap (λ zs. get_or zs i x) same ∙ get_or_default ys i x y m ∙ sym f)))))

pub same-at : {A : Type 0} (xs ys : List A) (i : ℕ) (x y d : A) (r : Bool) → i < length xs → i < length ys → x ≡ get_or xs i x → y ≡ get_or ys i y → r ≡ true → ((r ≡ true) ↔ (x ≡ y))
    → get_or xs i d ≡ get_or ys i d
same-at xs ys i x y d r l m e f on k = sym (get_or_read xs i x l e d) ∙ k.0 on ∙ get_or_read ys i y m f d

pub same_to-end : {A : Type 0} (xs ys : List A) (n : ℕ) (d : A) → length xs ≡ length ys → length xs ≤ n → ((p : ℕ) → p < n → get_or xs p d ≡ get_or ys p d) → (true ≡ true) ↔ (xs ≡ ys)
same_to-end xs ys n d e l h = ((λ t. same_each xs ys (length xs) d refl (sym e) (λ p m. h p (omega arith))), (λ s. refl))

-- ---- cuts that are the same

pub present-same : (x y : Cut) → x ≡ Present → y ≡ Present → (true ≡ true) ↔ (x ≡ y)
present-same x y e f = ((λ h. e ∙ sym f), (λ h. refl))

pub present-other : (x y : Cut) (f : Front) → x ≡ Present → y ≡ At f → (false ≡ true) ↔ (x ≡ y)
present-other x y f e g = ((λ h. absurd (cc)), (λ h. absurd (cc)))

pub front-other : (x y : Cut) (f : Front) → x ≡ At f → y ≡ Present → (false ≡ true) ↔ (x ≡ y)
front-other x y f e g = ((λ h. absurd (cc)), (λ h. absurd (cc)))

pub front-same : (x y : Cut) (f g : Front) (r : Bool) → x ≡ At f → y ≡ At g → ((r ≡ true) ↔ (f ≡ g)) → (r ≡ true) ↔ (x ≡ y)
front-same x y f g r e h k = ((λ t. e ∙ ap At (k.0 t) ∙ sym h), (λ same. k.1 (let both : At f ≡ At g = sym e ∙ same ∙ h in cc)))

-- ---- the greatest frontier

pub listed-front : (b : Bounds) (x : Offered) (rs s : List Recorded) (f : Front) → x ≡ form.Listed rs → s ≡ rs → IsGreatestFront b (form.Listed s) f → IsGreatestFront b x f
listed-front b x rs s f e same k = subst (λ y. IsGreatestFront b y f) (ap form.Listed same ∙ sym e) k

pub record-greatest : (b : Bounds) (rs : List Recorded) (o : Option Recorded) (r : Recorded) (f : Front) → AreCanonicalFronts b (form.Listed rs) → o ≡ Some r → f ≡ r.front
    → o ≡ find (λ x. list_all (λ s. is_within s.front x.front) rs) (reverse rs) → IsGreatestFront b (form.Listed rs) f
record-greatest b rs o r f k is same found =
    let one : IsListed r.front rs × (list_all (λ s. is_within s.front r.front) rs ≡ true) = found_back (λ x. list_all (λ s. is_within s.front x.front) rs) rs r (sym found ∙ is) in
    subst (IsGreatestFront b (form.Listed rs)) (sym same) (listed-greatest b rs r.front k one.0 one.1)

pub records-no_greatest : (b : Bounds) (rs : List Recorded) (o : Option Recorded) (f : Front) → AreCanonicalFronts b (form.Listed rs) → o ≡ None
    → o ≡ find (λ x. list_all (λ s. is_within s.front x.front) rs) (reverse rs) → IsGreatestFront b (form.Listed rs) f → ⊥
records-no_greatest b rs o f k is found = listed-none b rs f k (none_back (λ x. list_all (λ s. is_within s.front x.front) rs) rs (sym found ∙ is))

pub between-front : (b : Bounds) (least greatest f : Front) (r : Bool) → IsCanonical b greatest → r ≡ true → ((r ≡ true) ↔ Within (frontier_of b least) (frontier_of b greatest)) → f ≡ greatest
    → IsGreatestFront b (form.Between least greatest) f
between-front b least greatest f r c e k is = subst (IsGreatestFront b (form.Between least greatest)) (sym is) (between-greatest b least greatest c (k.0 e))

pub between-no_front : (b : Bounds) (least greatest f : Front) (r : Bool) → r ≡ false → ((r ≡ true) ↔ Within (frontier_of b least) (frontier_of b greatest))
    → IsGreatestFront b (form.Between least greatest) f → ⊥
between-no_front b least greatest f r e k = between-none b least greatest f (λ w. both_ways r e (k.1 w))

-- what was found
pub found-one : {A : Type 0} (found : Option A) (one : A) (none : Type 0) (some : A → Type 0) → found ≡ Some one → MatchOption found none some → some one
found-one found one none some e k = subst (λ o. MatchOption o none some) e k

-- what is found of batches, from what is found between their ends
pub batches-found : (b : Bounds) (x : Offered) (least greatest : Front) (exhausted : Bool) (found : Option Front) → x ≡ form.Batches least greatest exhausted → exhausted ≡ false
    → MatchOption found ((f : Front) → IsGreatestFront b (form.Between least greatest) f → ⊥) (IsGreatestFront b (form.Between least greatest))
    → MatchOption found ((f : Front) → IsGreatestFront b x f → ⊥) (IsGreatestFront b x)
batches-found b x least greatest exhausted None e off k = λ f g. batches-none b least greatest f exhausted off k (subst (λ z. IsGreatestFront b z f) e g)
batches-found b x least greatest exhausted (Some f) e off k = subst (λ z. IsGreatestFront b z f) (sym e) (batches-greatest b least greatest f exhausted off k)
