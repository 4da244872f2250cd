-- Which cuts are left: that each lies within one is shown record by record, or by the stamps just outside it.
use Rattle.std.proofs.Common.{◌≡◌, ◌≢◌, ◌↔◌, ℕ, ◌<◌, Bool, true, false, not, ◌||◌, List, [], ◌∷◌, length, None, Some, refl, sym, ap, subst, ◌∙◌, inl, inr}
use Rattle.std.specs.List.{AllByRecursion}
use Rattle.std.proofs.lemmas.Bool.{and_parts, and_from, both_ways, or_cases, or_left, or_right}
use Rattle.fw_lemmas.proofs.Each.{each-both, each-weaker}
use Rattle.fw_time.specs.Stamp.{Stamp, leq, in_domain}
use Rattle.fw_time.proofs.StampLaws.{leq-refl}
use Rattle.fw_time.specs.declared.stamp.Bounds.{Bounds}
use Rattle.fw_frontier.specs.Frontier.{Frontier, IsFrontier, Within, cover, join}
use Rattle.fw_frontier.specs.Front.{Front, inside, frontier_of, IsCanonical, IsFrontOf}
use Rattle.fw_frontier.specs.Outside.{below_at}
use Rattle.fw_frontier.proofs.CanonicalLaws.{in_domain-canonical}
use Rattle.fw_frontier.proofs.NamesLaws.{all-outside, frontier-closed, names-below, names-same}
use Rattle.fw_flow.specs.declared.choice.Cut.{Cut}
use Rattle.fw_flow.specs.declared.choice.Cut.TheVariants.{Present, At}
use Rattle.fw_flow.specs.declared.choice.Offer.{Offer}
use Rattle.fw_flow.specs.declared.choice.Offered.{Offered}
use Rattle.fw_flow.specs.declared.choice.Offered.TheVariants as form
use Rattle.fw_flow.specs.declared.choice.Recorded.{Recorded}
use Rattle.fw_flow.specs.declared.side.Side.{Side}
use Rattle.fw_flow.specs.Dataflow.{Dataflow, bounds_of, node_frontier}
use Rattle.fw_flow.specs.WellFormed.{IsWellFormed}
use Rattle.fw_model.specs.Choice.{IsCutWithin}
use Rattle.fw_model.specs.Inclusions.{owner, side_bounds, left_of, IsSideOfFlow}
use Rattle.fw_model.specs.Offers.{AreOffersOf, IsBetween, IsListed, IsOffered, IsOfferedFront, IsRangeOf, IsRecordOf, covers_of, listed_records, offered_by, offered_range, range_of}
use Rattle.fw_model.proofs.FrontLaws.{has_front}
use Rattle.fw_offers.specs.Sides.{IsLeft}
use Rattle.fw_certify.specs.Checked.{AreCanonicalFronts, HoldsEachLeft, IsAnyLeft, IsBroken, IsGreatestOfLeft, IsHeld, cut_inside}
use Rattle.fw_certify.proofs.RangeLaws.{side_inside, side-divides, side-is, side-monotone}

-- ---- records

pub listed-found : (P : Front → Type 0) (g : Front) (rs : List Recorded) → IsListed g rs → AllByRecursion (λ r. P r.front) rs → P g
listed-found P g [] l all = absurd l
listed-found P g (r ∷ rs) (inl e) all = subst P e all.0
listed-found P g (r ∷ rs) (inr l) all = listed-found P g rs l all.1

pub listed-each : (rs : List Recorded) → AllByRecursion (λ r. IsListed r.front rs) rs
listed-each [] = tt
listed-each (r ∷ rs) = (inl refl, each-weaker (λ s. IsListed s.front rs) (λ s. IsListed s.front (r ∷ rs)) rs (λ s l. inr l) (listed-each rs))

-- where records are listed, each frontier that is left lies within one exactly where each record's does
pub records-held : (flow : Dataflow) (offers : List Offer) (side : Side) (old : Cut) (bound f : Front) (rs : List Recorded) → offered_by offers (owner flow side) ≡ form.Listed rs
    → AllByRecursion (λ r. IsCanonical (bounds_of flow (owner flow side)) r.front) rs
    → AllByRecursion (λ r. IsHeld flow offers side old bound f r.front) rs ↔ HoldsEachLeft flow offers side old bound f
records-held flow offers side old bound f rs is canonical = (
  λ all g left.
      listed-found (IsHeld flow offers side old bound f) g rs (subst (λ x. IsOfferedFront (bounds_of flow (owner flow side)) x g) is left.offered.1) all left.within left.passes,
  λ holds. each-weaker (λ r. IsCanonical (bounds_of flow (owner flow side)) r.front × IsListed r.front rs) (λ r. IsHeld flow offers side old bound f r.front) rs
      (λ r k within passes. holds r.front (record {
        offered = (k.0, subst (λ x. IsOfferedFront (bounds_of flow (owner flow side)) x r.front) (sym is) k.1);
        within = within;
        passes = passes;
      }))
      (each-both (λ r. IsCanonical (bounds_of flow (owner flow side)) r.front) (λ r. IsListed r.front rs) rs canonical (listed-each rs)),
)

-- ---- ranges

-- what is at most a stamp lies within a frontier that has it
pub cover-one : (b : Bounds) (o : Stamp) (g : Frontier) → IsFrontier b g → g o ≡ true → Within (cover b (o ∷ [])) g
cover-one b o g fr k t h =
    let a = and_parts (in_domain b t) (leq t o || false) h in
    elim (or_cases (leq t o) false a.1) [
      | inl l ↦ fr.closed t o a.0 l k
      | inr e ↦ absurd (cc)
    ]

pub not-true : (x : Bool) → (x ≡ true → ⊥) → not x ≡ true
not-true true h = absurd (h refl)
not-true false h = refl

within-inside : (flow : Dataflow) (p : ℕ) (g : Front) (old : Cut) (o : Stamp) → IsCutWithin flow p (At g) old → node_frontier flow p g o ≡ true → cut_inside old o ≡ true
within-inside flow p g Present o w k = refl
within-inside flow p g (At h) o w k = (and_parts (in_domain (bounds_of flow p) o) (inside h o) (w o k)).1

-- where each stamp just outside is broken, each frontier of the range that is left lies within
pub range-held : (flow : Dataflow) (offers : List Offer) (side : Side) (old : Cut) (greatest bound f g : Front) → AreOffersOf flow offers → IsWellFormed flow → IsSideOfFlow flow side
    → range_of offers (owner flow side) ≢ None → IsCanonical (bounds_of flow (owner flow side)) f → AllByRecursion (IsBroken flow offers side old greatest bound) f
    → Within (node_frontier flow (owner flow side) g) (node_frontier flow (owner flow side) greatest) → IsCutWithin flow (owner flow side) (At g) old
    → Within (left_of (covers_of flow offers) side (At g)) (frontier_of (side_bounds flow side) bound)
    → Within (node_frontier flow (owner flow side) g) (node_frontier flow (owner flow side) f)
range-held flow offers side old greatest bound f g a well there range canonical broken below within passes t k =
    and_from (in_domain (bounds_of flow (owner flow side)) t) (inside f t) (fr.inside_domain t k) (at f canonical broken)
  where
    fr : IsFrontier (bounds_of flow (owner flow side)) (frontier_of (bounds_of flow (owner flow side)) g)
    fr = frontier-closed (bounds_of flow (owner flow side)) g

    none : (o : Stamp) → in_domain (bounds_of flow (owner flow side)) o ≡ true → IsBroken flow offers side old greatest bound o → leq o t ≡ true → ⊥
    none o d is l =
        let here : frontier_of (bounds_of flow (owner flow side)) g o ≡ true = fr.closed o t d l k in
        let n = names-below (bounds_of flow (owner flow side)) o d in
        is (within-inside flow (owner flow side) g old o within here) (and_parts (in_domain (bounds_of flow (owner flow side)) o) (inside greatest o) (below o here)).1 (below_at o (bounds_of flow (owner flow side)).greatest (length o)) n
        (λ s i. passes s (ap (λ (h : Frontier). h s) (side-is flow offers side g a well there range)
        ∙ side-monotone flow offers side (frontier_of (bounds_of flow (owner flow side)) (below_at o (bounds_of flow (owner flow side)).greatest (length o))) (frontier_of (bounds_of flow (owner flow side)) g) a well there range (λ u j. cover-one (bounds_of flow (owner flow side)) o (frontier_of (bounds_of flow (owner flow side)) g) fr here u (sym (n.same u) ∙ j)) s
        (sym (ap (λ (h : Frontier). h s) (side-is flow offers side (below_at o (bounds_of flow (owner flow side)).greatest (length o)) a well there range)) ∙ i)))

    at : (os : Front) → IsCanonical (bounds_of flow (owner flow side)) os → AllByRecursion (IsBroken flow offers side old greatest bound) os → inside os t ≡ true
    at [] c all = refl
    at (o ∷ os) c all = and_from (not (leq o t)) (inside os t) (not-true (leq o t) (none o c.0.in_the_domain all.0)) (at os c.1 all.1)

-- where each frontier that is left lies within, each stamp just outside is broken: else all up to it could be kept too
stamp-broken : (flow : Dataflow) (offers : List Offer) (side : Side) (old : Cut) (least greatest bound f : Front) (o : Stamp) → AreOffersOf flow offers → IsWellFormed flow → IsSideOfFlow flow side
    → range_of offers (owner flow side) ≢ None
    → ((g : Front) → IsCanonical (bounds_of flow (owner flow side)) g → IsBetween (bounds_of flow (owner flow side)) least greatest g → IsOfferedFront (bounds_of flow (owner flow side)) (offered_by offers (owner flow side)) g)
    → IsBetween (bounds_of flow (owner flow side)) least greatest f → IsLeft flow offers side old bound (At f) → HoldsEachLeft flow offers side old bound f
    → in_domain (bounds_of flow (owner flow side)) o ≡ true → inside f o ≡ false → IsBroken flow offers side old greatest bound o
stamp-broken flow offers side old least greatest bound f o a well there range between mid left holds d out in_old in_greatest x n passes =
    both_ways (inside f o) out (and_parts (in_domain (bounds_of flow (owner flow side)) o) (inside f o) (holds g.0 left_more o (g.1.same o ∙ or_right (frontier_of (bounds_of flow (owner flow side)) f o) (cover (bounds_of flow (owner flow side)) (o ∷ []) o) top))).1
  where
    closed : IsFrontier (bounds_of flow (owner flow side)) (join (frontier_of (bounds_of flow (owner flow side)) f) (cover (bounds_of flow (owner flow side)) (o ∷ [])))
    closed = record {
      inside_domain = λ t k. elim (or_cases (frontier_of (bounds_of flow (owner flow side)) f t) (cover (bounds_of flow (owner flow side)) (o ∷ []) t) k) [
        | inl i ↦ (and_parts (in_domain (bounds_of flow (owner flow side)) t) (inside f t) i).0
        | inr i ↦ (and_parts (in_domain (bounds_of flow (owner flow side)) t) (leq t o || false) i).0
      ];
      closed = λ s t e l k. elim (or_cases (frontier_of (bounds_of flow (owner flow side)) f t) (cover (bounds_of flow (owner flow side)) (o ∷ []) t) k) [
        | inl i ↦ or_left (frontier_of (bounds_of flow (owner flow side)) f s) (cover (bounds_of flow (owner flow side)) (o ∷ []) s) ((frontier-closed (bounds_of flow (owner flow side)) f).closed s t e l i)
        | inr i ↦ or_right (frontier_of (bounds_of flow (owner flow side)) f s) (cover (bounds_of flow (owner flow side)) (o ∷ []) s) (sym (n.same s) ∙ (frontier-closed (bounds_of flow (owner flow side)) x).closed s t e l (n.same t ∙ i))
      ];
    }

    g : (os : Front) × IsFrontOf (bounds_of flow (owner flow side)) os (join (frontier_of (bounds_of flow (owner flow side)) f) (cover (bounds_of flow (owner flow side)) (o ∷ [])))
    g = has_front (bounds_of flow (owner flow side)) (join (frontier_of (bounds_of flow (owner flow side)) f) (cover (bounds_of flow (owner flow side)) (o ∷ []))) closed

    top : cover (bounds_of flow (owner flow side)) (o ∷ []) o ≡ true
    top = and_from (in_domain (bounds_of flow (owner flow side)) o) (leq o o || false) d (or_left (leq o o) false (leq-refl o))

    -- what has both parts has the whole
    parts : (whole : Frontier) → IsFrontier (bounds_of flow (owner flow side)) whole → Within (frontier_of (bounds_of flow (owner flow side)) f) whole → whole o ≡ true → Within (frontier_of (bounds_of flow (owner flow side)) g.0) whole
    parts whole fr w k t i = elim (or_cases (frontier_of (bounds_of flow (owner flow side)) f t) (cover (bounds_of flow (owner flow side)) (o ∷ []) t) (sym (g.1.same t) ∙ i)) [
      | inl j ↦ w t j
      | inr j ↦ cover-one (bounds_of flow (owner flow side)) o whole fr k t j
    ]

    within : (c : Cut) → IsCutWithin flow (owner flow side) (At f) c → cut_inside c o ≡ true → IsCutWithin flow (owner flow side) (At g.0) c
    within Present w k = tt
    within (At h) w k = parts (frontier_of (bounds_of flow (owner flow side)) h) (frontier-closed (bounds_of flow (owner flow side)) h) w (and_from (in_domain (bounds_of flow (owner flow side)) o) (inside h o) d k)

    left_more : IsLeft flow offers side old bound (At g.0)
    left_more = record {
      offered = (
        g.1.canonical,
        between g.0 g.1.canonical (
          (λ t i. g.1.same t ∙ or_left (frontier_of (bounds_of flow (owner flow side)) f t) (cover (bounds_of flow (owner flow side)) (o ∷ []) t) (mid.0 t i)),
          parts (frontier_of (bounds_of flow (owner flow side)) greatest) (frontier-closed (bounds_of flow (owner flow side)) greatest) mid.1 (and_from (in_domain (bounds_of flow (owner flow side)) o) (inside greatest o) d in_greatest),
        ),
      );
      within = within old left.within in_old;
      passes = λ t i. elim (or_cases (side_inside flow offers side (frontier_of (bounds_of flow (owner flow side)) f) t) (side_inside flow offers side (frontier_of (bounds_of flow (owner flow side)) x) t)
          (side-divides flow offers side (frontier_of (bounds_of flow (owner flow side)) g.0) (frontier_of (bounds_of flow (owner flow side)) f) (frontier_of (bounds_of flow (owner flow side)) x) a well there range
          (λ s j. elim (or_cases (frontier_of (bounds_of flow (owner flow side)) f s) (cover (bounds_of flow (owner flow side)) (o ∷ []) s) (sym (g.1.same s) ∙ j)) [
            | inl m ↦ or_left (frontier_of (bounds_of flow (owner flow side)) f s) (frontier_of (bounds_of flow (owner flow side)) x s) m
            | inr m ↦ or_right (frontier_of (bounds_of flow (owner flow side)) f s) (frontier_of (bounds_of flow (owner flow side)) x s) (n.same s ∙ m)
          ]) t
          (sym (ap (λ (h : Frontier). h t) (side-is flow offers side g.0 a well there range)) ∙ i))) [
            | inl j ↦ left.passes t (ap (λ (h : Frontier). h t) (side-is flow offers side f a well there range) ∙ j)
            | inr j ↦ passes t (ap (λ (h : Frontier). h t) (side-is flow offers side x a well there range) ∙ j)
          ];
    }

-- ---- what is offered

-- all frontiers that a node offers are canonical
pub offered-fronts : (flow : Dataflow) (offers : List Offer) (p : ℕ) → AreOffersOf flow offers → p < length flow.nodes → AreCanonicalFronts (bounds_of flow p) (offered_by offers p)
offered-fronts flow offers p a l = by (offered_by offers p) (a.records p l) (a.range p l)
  where
    by : (x : Offered) → AllByRecursion (IsRecordOf flow p) (listed_records x) → IsRangeOf (bounds_of flow p) (offered_range x) → AreCanonicalFronts (bounds_of flow p) x
    by (form.Listed records) all range = each-weaker (IsRecordOf flow p) (λ r. IsCanonical (bounds_of flow p) r.front) records (λ r k. k.front) all
    by (form.Between least greatest) all range = range
    by (form.Batches least greatest exhausted) all range = range

some-range : (offers : List Offer) (p : ℕ) (x : Offered) (ends : Front × Front) → offered_by offers p ≡ x → offered_range x ≡ Some ends → range_of offers p ≢ None
some-range offers p x ends is k e = let s : Some ends ≡ None = sym k ∙ sym (ap offered_range is) ∙ e in absurd (cc)

pub between-held : (flow : Dataflow) (offers : List Offer) (side : Side) (old : Cut) (least greatest bound f : Front) → AreOffersOf flow offers → IsWellFormed flow → IsSideOfFlow flow side
    → offered_by offers (owner flow side) ≡ form.Between least greatest → IsLeft flow offers side old bound (At f)
    → AllByRecursion (IsBroken flow offers side old greatest bound) f ↔ HoldsEachLeft flow offers side old bound f
between-held flow offers side old least greatest bound f a well there is left =
    let p = owner flow side in
    let b = bounds_of flow p in
    let range = some-range offers p (form.Between least greatest) (least, greatest) is refl in
    let one = λ (g : Front) (o : IsOfferedFront b (offered_by offers p) g). subst (λ x. IsOfferedFront b x g) is o in (
      λ broken g l. range-held flow offers side old greatest bound f g a well there range left.offered.0 broken (one g l.offered.1).1 l.within l.passes,
      λ holds. each-weaker (λ o. (in_domain b o ≡ true) × (inside f o ≡ false)) (IsBroken flow offers side old greatest bound) f
          (λ o k. stamp-broken flow offers side old least greatest bound f o a well there range (λ g c m. subst (λ x. IsOfferedFront b x g) (sym is) m) (one f left.offered.1) left holds k.0 k.1)
          (each-both (λ o. in_domain b o ≡ true) (λ o. inside f o ≡ false) f (in_domain-canonical b f left.offered.0) (all-outside f)),
    )

pub batches-held : (flow : Dataflow) (offers : List Offer) (side : Side) (old : Cut) (least greatest bound f : Front) (exhausted : Bool) → AreOffersOf flow offers → IsWellFormed flow → IsSideOfFlow flow side
    → offered_by offers (owner flow side) ≡ form.Batches least greatest exhausted → IsLeft flow offers side old bound (At f) → f ≢ [] → (exhausted ≡ true → IsLeft flow offers side old bound (At []) → ⊥)
    → AllByRecursion (IsBroken flow offers side old greatest bound) f ↔ HoldsEachLeft flow offers side old bound f
batches-held flow offers side old least greatest bound f exhausted a well there is left some all_not =
    let p = owner flow side in
    let b = bounds_of flow p in
    let range = some-range offers p (form.Batches least greatest exhausted) (least, greatest) is refl in
    let one = λ (g : Front) (o : IsOfferedFront b (offered_by offers p) g). subst (λ x. IsOfferedFront b x g) is o in
    let mid : IsBetween b least greatest f = elim (one f left.offered.1) [ inl m ↦ m | inr e ↦ absurd (some e.1) ] in (
      λ broken g l. elim (one g l.offered.1) [
        | inl m ↦ range-held flow offers side old greatest bound f g a well there range left.offered.0 broken m.1 l.within l.passes
        | inr e ↦ absurd (all_not e.0 (subst (λ h. IsLeft flow offers side old bound (At h)) e.1 l))
      ],
      λ holds. each-weaker (λ o. (in_domain b o ≡ true) × (inside f o ≡ false)) (IsBroken flow offers side old greatest bound) f
          (λ o k. stamp-broken flow offers side old least greatest bound f o a well there range (λ g c m. subst (λ x. IsOfferedFront b x g) (sym is) (inl m)) mid left holds k.0 k.1)
          (each-both (λ o. in_domain b o ≡ true) (λ o. inside f o ≡ false) f (in_domain-canonical b f left.offered.0) (all-outside f)),
    )

-- where all is left, each frontier that is left lies within all alone
pub all-left : (flow : Dataflow) (offers : List Offer) (side : Side) (old : Cut) (bound f : Front) → IsCanonical (bounds_of flow (owner flow side)) f → f ≢ []
    → IsLeft flow offers side old bound (At []) → HoldsEachLeft flow offers side old bound f → ⊥
all-left flow offers side old bound [] c some left holds = some refl
all-left flow offers side old bound (o ∷ os) c some left holds =
    let b = bounds_of flow (owner flow side) in
    both_ways (inside (o ∷ os) o) (all-outside (o ∷ os)).0 (and_parts (in_domain b o) (inside (o ∷ os) o) (holds [] left o (and_from (in_domain b o) true c.0.in_the_domain refl))).1

pub all-held : (flow : Dataflow) (offers : List Offer) (side : Side) (old : Cut) (bound f : Front) → f ≡ [] → HoldsEachLeft flow offers side old bound f
all-held flow offers side old bound f e g left t k =
    let b = bounds_of flow (owner flow side) in
    subst (λ (h : Front). frontier_of b h t ≡ true) (sym e) (and_from (in_domain b t) true (and_parts (in_domain b t) (inside g t) k).0 refl)

-- ---- the greatest

pub greatest-present : (flow : Dataflow) (offers : List Offer) (side : Side) (old : Cut) (bound : Front) → IsLeft flow offers side old bound Present → IsGreatestOfLeft flow offers side old bound Present
greatest-present flow offers side old bound left = record { left = left; greatest = λ y l. tt }

present-fails : (flow : Dataflow) (offers : List Offer) (side : Side) (old : Cut) (bound : Front)
    → (Within (left_of (covers_of flow offers) side old) (frontier_of (side_bounds flow side) bound) → ⊥) → IsLeft flow offers side old bound Present → ⊥
present-fails flow offers side Present bound fails left = fails left.passes
present-fails flow offers side (At g) bound fails left = left.within

pub greatest-at : (flow : Dataflow) (offers : List Offer) (side : Side) (old : Cut) (bound f : Front)
    → (Within (left_of (covers_of flow offers) side old) (frontier_of (side_bounds flow side) bound) → ⊥) → IsLeft flow offers side old bound (At f)
    → HoldsEachLeft flow offers side old bound f → IsGreatestOfLeft flow offers side old bound (At f)
greatest-at flow offers side old bound f fails left holds = record { left = left; greatest = at }
  where
    at : (y : Cut) → IsLeft flow offers side old bound y → IsCutWithin flow (owner flow side) y (At f)
    at Present l = absurd (present-fails flow offers side old bound fails l)
    at (At g) l = holds g l

-- ---- whether any is left

pub none-listed : (flow : Dataflow) (offers : List Offer) (side : Side) (old : Cut) (bound : Front) (rs : List Recorded) → offered_by offers (owner flow side) ≡ form.Listed rs
    → (IsLeft flow offers side old bound Present → ⊥) → AllByRecursion (λ r. IsLeft flow offers side old bound (At r.front) → ⊥) rs → IsAnyLeft flow offers side old bound → ⊥
none-listed flow offers side old bound rs is not_present none (Present, left) = not_present left
none-listed flow offers side old bound rs is not_present none (At g, left) =
    listed-found (λ h. IsLeft flow offers side old bound (At h) → ⊥) g rs (subst (λ x. IsOfferedFront (bounds_of flow (owner flow side)) x g) is left.offered.1) none left

-- where a frontier of a range is left, the least one is
least-left : (flow : Dataflow) (offers : List Offer) (side : Side) (old : Cut) (least greatest bound g : Front) → AreOffersOf flow offers → IsWellFormed flow → IsSideOfFlow flow side
    → range_of offers (owner flow side) ≢ None → IsCanonical (bounds_of flow (owner flow side)) least → IsBetween (bounds_of flow (owner flow side)) least greatest g
    → (IsBetween (bounds_of flow (owner flow side)) least greatest least → IsOfferedFront (bounds_of flow (owner flow side)) (offered_by offers (owner flow side)) least)
    → IsLeft flow offers side old bound (At g) → IsLeft flow offers side old bound (At least)
least-left flow offers side old least greatest bound g a well there range canonical mid offered left =
    let b = bounds_of flow (owner flow side) in
    record {
      offered = (canonical, offered ((λ t i. i), (λ t i. mid.1 t (mid.0 t i))));
      within = within old left.within;
      passes = λ t i. left.passes t (ap (λ (h : Frontier). h t) (side-is flow offers side g a well there range)
          ∙ side-monotone flow offers side (frontier_of b least) (frontier_of b g) a well there range mid.0 t (sym (ap (λ (h : Frontier). h t) (side-is flow offers side least a well there range)) ∙ i));
    }
  where
    within : (c : Cut) → IsCutWithin flow (owner flow side) (At g) c → IsCutWithin flow (owner flow side) (At least) c
    within Present w = tt
    within (At h) w = λ t i. w t (mid.0 t i)

pub none-between : (flow : Dataflow) (offers : List Offer) (side : Side) (old : Cut) (least greatest bound : Front) → AreOffersOf flow offers → IsWellFormed flow → IsSideOfFlow flow side
    → offered_by offers (owner flow side) ≡ form.Between least greatest → IsCanonical (bounds_of flow (owner flow side)) least
    → (IsLeft flow offers side old bound Present → ⊥) → (IsLeft flow offers side old bound (At least) → ⊥) → IsAnyLeft flow offers side old bound → ⊥
none-between flow offers side old least greatest bound a well there is canonical not_present none (Present, left) = not_present left
none-between flow offers side old least greatest bound a well there is canonical not_present none (At g, left) =
    let p = owner flow side in
    let b = bounds_of flow p in
    none (least-left flow offers side old least greatest bound g a well there (some-range offers p (form.Between least greatest) (least, greatest) is refl) canonical
    (subst (λ x. IsOfferedFront b x g) is left.offered.1) (λ m. subst (λ x. IsOfferedFront b x least) (sym is) m) left)

pub none-batches : (flow : Dataflow) (offers : List Offer) (side : Side) (old : Cut) (least greatest bound : Front) (exhausted : Bool) → AreOffersOf flow offers → IsWellFormed flow → IsSideOfFlow flow side
    → offered_by offers (owner flow side) ≡ form.Batches least greatest exhausted → IsCanonical (bounds_of flow (owner flow side)) least
    → (IsLeft flow offers side old bound Present → ⊥) → (IsLeft flow offers side old bound (At least) → ⊥) → (IsLeft flow offers side old bound (At []) → ⊥) → IsAnyLeft flow offers side old bound → ⊥
none-batches flow offers side old least greatest bound exhausted a well there is canonical not_present none not_all (Present, left) = not_present left
none-batches flow offers side old least greatest bound exhausted a well there is canonical not_present none not_all (At g, left) =
    let p = owner flow side in
    let b = bounds_of flow p in
    elim (subst (λ x. IsOfferedFront b x g) is left.offered.1) [
      | inl m ↦ none (least-left flow offers side old least greatest bound g a well there (some-range offers p (form.Batches least greatest exhausted) (least, greatest) is refl) canonical
          m (λ n. subst (λ x. IsOfferedFront b x least) (sym is) (inl n)) left)
      | inr e ↦ not_all (subst (λ h. IsLeft flow offers side old bound (At h)) e.1 left)
    ]

-- ---- the tests of one cut

pub not_offered-left : (flow : Dataflow) (offers : List Offer) (side : Side) (old : Cut) (bound : Front) (x : Cut) (p : ℕ) (r : Bool) → p ≡ owner flow side → r ≡ false
    → ((r ≡ true) ↔ IsOffered flow offers p x) → (false ≡ true) ↔ IsLeft flow offers side old bound x
not_offered-left flow offers side old bound x p r m e k = (
  λ h. absurd (cc),
  λ l. absurd (both_ways r e (k.1 (subst (λ q. IsOffered flow offers q x) (sym m) l.offered))),
)

pub not_within-left : (flow : Dataflow) (offers : List Offer) (side : Side) (old : Cut) (bound : Front) (x : Cut) (r : Bool) → r ≡ false
    → ((r ≡ true) ↔ IsCutWithin flow (owner flow side) x old) → (false ≡ true) ↔ IsLeft flow offers side old bound x
not_within-left flow offers side old bound x r e k = (λ h. absurd (cc), λ l. absurd (both_ways r e (k.1 l.within)))

pub passing-left : (flow : Dataflow) (offers : List Offer) (side : Side) (old : Cut) (bound : Front) (x : Cut) (p : ℕ) (r s t : Bool) → p ≡ owner flow side → r ≡ true
    → ((r ≡ true) ↔ IsOffered flow offers p x) → s ≡ true → ((s ≡ true) ↔ IsCutWithin flow (owner flow side) x old)
    → ((t ≡ true) ↔ Within (left_of (covers_of flow offers) side x) (frontier_of (side_bounds flow side) bound))
    → (t ≡ true) ↔ IsLeft flow offers side old bound x
passing-left flow offers side old bound x p r s t m e k f j h = (
  λ i. record { offered = subst (λ q. IsOffered flow offers q x) m (k.0 e); within = j.0 f; passes = h.0 i },
  λ l. h.1 l.passes,
)

-- a frontier that is outside the old cut, or within the other, is held; one that passes is not
pub outside-held : (flow : Dataflow) (offers : List Offer) (side : Side) (old : Cut) (bound f g : Front) (r : Bool) → r ≡ false
    → ((r ≡ true) ↔ IsCutWithin flow (owner flow side) (At g) old) → (true ≡ true) ↔ IsHeld flow offers side old bound f g
outside-held flow offers side old bound f g r e k = (λ h w. absurd (both_ways r e (k.1 w)), λ h. refl)

pub within-held : (flow : Dataflow) (offers : List Offer) (side : Side) (old : Cut) (bound f g : Front) (r : Bool) → r ≡ true
    → ((r ≡ true) ↔ Within (node_frontier flow (owner flow side) g) (node_frontier flow (owner flow side) f)) → (true ≡ true) ↔ IsHeld flow offers side old bound f g
within-held flow offers side old bound f g r e k = (λ h w p. k.0 e, λ h. refl)

pub passing-held : (flow : Dataflow) (offers : List Offer) (side : Side) (old : Cut) (bound f g : Front) (r s t u : Bool) → r ≡ true
    → ((r ≡ true) ↔ IsCutWithin flow (owner flow side) (At g) old) → s ≡ false → ((s ≡ true) ↔ Within (node_frontier flow (owner flow side) g) (node_frontier flow (owner flow side) f))
    → ((t ≡ true) ↔ Within (left_of (covers_of flow offers) side (At g)) (frontier_of (side_bounds flow side) bound)) → u ≡ not t
    → (u ≡ true) ↔ IsHeld flow offers side old bound f g
passing-held flow offers side old bound f g r s true u e k d j h is = (λ i. absurd (cc), λ i. absurd (both_ways s d (j.1 (i (k.0 e) (h.0 refl)))))
passing-held flow offers side old bound f g r s false u e k d j h is = (λ i w p. let q : false ≡ true = h.1 p in absurd (cc), λ i. is)

-- a stamp that is outside the old cut or the greatest frontier is broken; one whose cover passes is not
pub old-broken : (flow : Dataflow) (offers : List Offer) (side : Side) (old : Cut) (greatest bound : Front) (o : Stamp) (r : Bool) → r ≡ false → r ≡ cut_inside old o
    → (true ≡ true) ↔ IsBroken flow offers side old greatest bound o
old-broken flow offers side old greatest bound o r e is = (λ h k. absurd (both_ways (cut_inside old o) (sym is ∙ e) k), λ h. refl)

pub greatest-broken : (flow : Dataflow) (offers : List Offer) (side : Side) (old : Cut) (greatest bound : Front) (o : Stamp) (r : Bool) → r ≡ false → r ≡ inside greatest o
    → (true ≡ true) ↔ IsBroken flow offers side old greatest bound o
greatest-broken flow offers side old greatest bound o r e is = (λ h k l. absurd (both_ways (inside greatest o) (sym is ∙ e) l), λ h. refl)

pub passing-broken : (flow : Dataflow) (offers : List Offer) (side : Side) (old : Cut) (greatest bound x : Front) (o : Stamp) (r s t u : Bool) → r ≡ true → r ≡ cut_inside old o
    → s ≡ true → s ≡ inside greatest o → IsFrontOf (bounds_of flow (owner flow side)) x (cover (bounds_of flow (owner flow side)) (o ∷ []))
    → ((t ≡ true) ↔ Within (left_of (covers_of flow offers) side (At x)) (frontier_of (side_bounds flow side) bound)) → u ≡ not t
    → (u ≡ true) ↔ IsBroken flow offers side old greatest bound o
passing-broken flow offers side old greatest bound x o r s true u e i f j n h is =
    (λ k. absurd (cc), λ k. absurd (k (sym i ∙ e) (sym j ∙ f) x n (h.0 refl)))
passing-broken flow offers side old greatest bound x o r s false u e i f j n h is = (
  λ k a b y m w.
      let same = names-same (bounds_of flow (owner flow side)) x y (cover (bounds_of flow (owner flow side)) (o ∷ [])) n m in
      let q : false ≡ true = h.1 (subst (λ z. Within (left_of (covers_of flow offers) side (At z)) (frontier_of (side_bounds flow side) bound)) (sym same) w) in
      absurd (cc),
  λ k. is,
)
