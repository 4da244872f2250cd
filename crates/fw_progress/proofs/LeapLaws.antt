-- A leap leaves a family admissible, and what its calls keep.
use Rattle.std.proofs.Common.{◌↔◌, ◌≡◌, ◌⊎◌, ℕ, zero, suc, ◌+◌, ◌<◌, ◌≤◌, Bool, true, false, List, [], ◌∷◌, ◌++◌, length, get_or, set, refl, sym, ap, subst, ◌∙◌, inl, inr, arith}
use Rattle.std.proofs.lemmas.Bool.{and_parts, cases_eq, cases_lt, both_ways}
use Rattle.std.specs.Prelude.{IsTrue}
use Rattle.fw_lemmas.proofs.Lists.{read_at}
use Rattle.fw_time.specs.Stamp.{in_domain}
use Rattle.fw_time.specs.declared.stamp.Bounds.{Bounds}
use Rattle.fw_frontier.specs.Frontier.{Within}
use Rattle.fw_frontier.specs.Front.{Front, inside, frontier_of, IsCanonical, IsFrontOf}
use Rattle.fw_frontier.proofs.NamesLaws.{frontier-closed}
use Rattle.fw_flow.specs.Dataflow.{Dataflow, bounds_of, node_frontier}
use Rattle.fw_flow.specs.WellFormed.{IsWellFormed}
use Rattle.fw_model.specs.Machine.{front_of, family_of, AreCanonical}
use Rattle.fw_progress.specs.declared.counts.Counts.{Counts}
use Rattle.fw_progress.specs.declared.growth.Growth.{Growth}
use Rattle.fw_progress.specs.Counts.{target_by, IsAdmissibleBy}
use Rattle.fw_progress.specs.Growths.{IsMore, times_grown, GrewOnce, IsGrown, HaveGrown, GrewAlone}
use Rattle.fw_progress.specs.Leap.{is_node_marked, CanLeapAt, CanLeap, AreAbove, IsReachedAt, HaveReached, HaveLeapt, IsClimbing, AreLedTo, AreProposed, AreNoneProposed, IsWithoutProposal, CannotLeap, AreLowered, StaysLow}
use Rattle.fw_progress.proofs.TargetLaws.{target-monotone}
use Rattle.fw_progress.proofs.GrowLaws.{family_new, family_old, family_grows, none_grown, one_grown, grown_then, one_growth}
use Rattle.fw_progress.proofs.StartLaws.{past-all}

-- ---- the law

-- past the nodes all have all stamps
above-each : (flow : Dataflow) (low high : List Front) → length high ≡ length flow.nodes → AreAbove flow low high → (p : ℕ) → Within (family_of flow low p) (family_of flow high p)
above-each flow low high one a p t i = elim (cases_lt p (length flow.nodes)) [
  | inl l ↦ a p l t i
  | inr l ↦ past-all flow high p t (omega (arith, one, l)) (and_parts (in_domain (bounds_of flow p) t) (inside (front_of low p) t) i).0
]

-- a leap leaves what is admissible so
pub leap-admissible : (flow : Dataflow) (counts : Counts) (old next : List Front) → length next ≡ length flow.nodes → CanLeap flow counts old next
    → IsAdmissibleBy flow counts (family_of flow old) → IsAdmissibleBy flow counts (family_of flow next)
leap-admissible flow counts old next one can a =
    let more = target-monotone flow counts (family_of flow old) (family_of flow next) (above-each flow old next one (λ p l. (can p l).above)) in
    record {
      frontier = λ p. frontier-closed (bounds_of flow p) (front_of next p);
      within = λ p l t i. elim ((can p l).within) [
        | inl same ↦ more p t (a.within p l t (same t i))
        | inr most ↦ most t i
      ];
    }

-- frontiers that name the same are admissible where the others are
same-admissible : (flow : Dataflow) (counts : Counts) (next new : List Front) → length new ≡ length flow.nodes → AreAbove flow new next → AreAbove flow next new
    → IsAdmissibleBy flow counts (family_of flow next) → IsAdmissibleBy flow counts (family_of flow new)
same-admissible flow counts next new one below above a =
    let more = target-monotone flow counts (family_of flow next) (family_of flow new) (above-each flow next new one above) in
    record {
      frontier = λ p. frontier-closed (bounds_of flow p) (front_of new p);
      within = λ p l t i. more p t (a.within p l t (below p l t i));
    }

-- ---- nodes reach their next frontiers

pub reached_same : (flow : Dataflow) (p : ℕ) (old next : List Front) → (Within (family_of flow old p) (family_of flow next p) → Within (family_of flow next p) (family_of flow old p))
    → IsReachedAt flow p old next old
reached_same flow p old next back = record { grows = λ q l t i. i; below = λ a. a; here = back }

pub reached_more : (flow : Dataflow) (p : ℕ) (old next : List Front) → p < length old → Within (family_of flow old p) (family_of flow next p)
    → IsReachedAt flow p old next (set old p (front_of next p))
reached_more flow p old next l w =
    let new = set old p (front_of next p) in
    record {
      grows = λ q m. family_grows flow old p (front_of next p) l w q;
      below = λ a q m t i. elim (cases_eq q p) [
        | inl e ↦ subst (λ r. family_of flow next r t ≡ true) (sym e) (sym (family_new flow old p (front_of next p) t l) ∙ sym (ap (λ r. family_of flow new r t) e) ∙ i)
        | inr n ↦ a q m t (sym (family_old flow old p q (front_of next p) t n) ∙ i)
      ];
      here = λ k t i. family_new flow old p (front_of next p) t l ∙ i;
    }

-- the first nodes have reached their next frontiers
pub record AreReached (flow : Dataflow) (counts : Counts) (n : ℕ) (old next new : List Front) (work rest : List ℕ) (growths more : List Growth) : Type 0 where
  pub grown : HaveGrown flow counts old new work rest growths more
  pub once : GrewOnce growths more
  pub others : (q : ℕ) → n ≤ q → times_grown more q ≡ times_grown growths q
  pub one_each : length new ≡ length flow.nodes
  pub canonical : AreCanonical flow new
  pub below : AreAbove flow new next
  pub reached : (q : ℕ) → q < n → q < length flow.nodes → Within (family_of flow next q) (family_of flow new q)

pub none_reached : (flow : Dataflow) (counts : Counts) (old next : List Front) (work : List ℕ) (growths : List Growth) → length old ≡ length flow.nodes → AreCanonical flow old → AreAbove flow old next
    → AreReached flow counts 0 old next old work work growths growths
none_reached flow counts old next work growths one c a = record {
  grown = none_grown flow counts old work growths;
  once = λ q. omega arith;
  others = λ q l. refl;
  one_each = one;
  canonical = c;
  below = a;
  reached = λ q l m. absurd (omega (arith, l));
}

pub one_reached : (flow : Dataflow) (counts : Counts) (n p : ℕ) (old next mid new : List Front) (work some rest : List ℕ) (growths more most : List Growth) → p ≡ n → n < length flow.nodes
    → AreReached flow counts n old next mid work some growths more → HaveGrown flow counts mid new some rest more most → GrewAlone p more most → IsReachedAt flow p mid next new
    → AreReached flow counts (n + 1) old next new work rest growths most
one_reached flow counts n p old next mid new work some rest growths more most e l a g o r = record {
  grown = grown_then flow counts old mid new work some rest growths more most a.grown g;
  once = λ q. elim (cases_eq q p) [
    | inl s ↦
        let before = a.others p (omega (arith, e)) in
        let here = o.here in
        subst (λ x. times_grown most x ≤ times_grown growths x + 1) (sym s) (omega (arith, before, here))
    | inr s ↦
        let same = o.others q s in
        let before = a.once q in
        omega (arith, same, before)
  ];
  others = λ q k. o.others q (λ s. absurd (omega (arith, k, s, e))) ∙ a.others q (omega (arith, k));
  one_each = g.one_each ∙ a.one_each;
  canonical = g.canonical a.canonical;
  below = r.below a.below;
  reached = λ q k m t i. elim (cases_eq q p) [
    | inl s ↦
        let here = subst (λ x. Within (family_of flow next x) (family_of flow new x)) (sym s) (r.here (a.below p (subst (λ x. x < length flow.nodes) s m))) in
        here t i
    | inr s ↦ r.grows q m t (a.reached q (omega (arith, k, s, e)) m t i)
  ];
}

pub all_reached : (flow : Dataflow) (counts : Counts) (n : ℕ) (old next new : List Front) (work rest : List ℕ) (growths more : List Growth) → length flow.nodes ≤ n
    → AreReached flow counts n old next new work rest growths more → HaveReached flow counts old next new work rest growths more
all_reached flow counts n old next new work rest growths more l a = record {
  grew = a.grown;
  once = a.once;
  below = a.below;
  above = λ q m. a.reached q (omega (arith, l, m)) m;
}

-- a node that can have more gets it
pub one_more : (flow : Dataflow) (counts : Counts) (p i : ℕ) (f x : Front) (old next new : List Front) (work rest : List ℕ) (growths more : List Growth) → IsWellFormed flow → p < length old
    → AreCanonical flow next → i ≡ p → i < length next → x ≡ get_or next i x → f ≡ x → IsMore flow old p x → IsGrown flow p f old new work rest growths more
    → HaveGrown flow counts old new work rest growths more × GrewAlone p growths more × IsReachedAt flow p old next new
one_more flow counts p i f x old next new work rest growths more w l c e k is same m g =
    let here : f ≡ front_of next p = same ∙ read_at next p i x [] e k is in
    let mine : IsMore flow old p f = subst (IsMore flow old p) (sym same) m in
    let to : new ≡ set old p (front_of next p) = g.changed ∙ ap (set old p) here in
    let above = subst (λ h. Within (family_of flow old p) (node_frontier flow p h)) here mine.above in (
      one_grown flow counts p f old new work rest growths more w l (subst (IsCanonical (bounds_of flow p)) (sym here) (c p)) mine g,
      one_growth p f growths more g.listed,
      subst (IsReachedAt flow p old next) (sym to) (reached_more flow p old next l above),
    )

-- ---- the leap

-- nothing changes
none-leapt : (flow : Dataflow) (counts : Counts) (p : ℕ) (old : List Front) (work : List ℕ) (growths : List Growth)
    → (IsClimbing flow counts old growths p → ⊥) ⊎ (IsWithoutProposal flow counts p old ⊎ CannotLeap flow counts p old) → HaveLeapt flow counts p old old work work growths growths
none-leapt flow counts p old work growths why = record {
  grew = none_grown flow counts old work growths;
  once = λ q. omega arith;
  admissible = λ a. a;
  taken = inr (record { same = refl; same_work = refl; same_growths = refl; why = why });
}

pub does_not_climb : (flow : Dataflow) (counts : Counts) (p : ℕ) (old : List Front) (work : List ℕ) (growths : List Growth) (climbs : Bool)
    → IsTrue climbs ↔ IsClimbing flow counts old growths p → climbs ≡ false → HaveLeapt flow counts p old old work work growths growths
does_not_climb flow counts p old work growths climbs is none = none-leapt flow counts p old work growths (inl (λ k. both_ways climbs none (is.1 k)))

pub none_proposed : (flow : Dataflow) (counts : Counts) (p : ℕ) (old : List Front) (work : List ℕ) (growths : List Growth) (marks : List Bool)
    → AreLedTo flow p marks → AreNoneProposed flow counts marks old → HaveLeapt flow counts p old old work work growths growths
none_proposed flow counts p old work growths marks led none = none-leapt flow counts p old work growths (inr (inl (record { marks = marks; led = led; none = none })))

pub may_not_leap : (flow : Dataflow) (counts : Counts) (p : ℕ) (old : List Front) (work : List ℕ) (growths : List Growth) (marks : List Bool) (next : List Front) (can : Bool)
    → AreLedTo flow p marks → AreProposed flow counts marks old next → IsTrue can ↔ CanLeap flow counts old next → can ≡ false → HaveLeapt flow counts p old old work work growths growths
may_not_leap flow counts p old work growths marks next can led proposed is none =
    none-leapt flow counts p old work growths (inr (inr (record { marks = marks; led = led; next = next; proposed = proposed; cannot = λ k. both_ways can none (is.1 k) })))

pub have_leapt : (flow : Dataflow) (counts : Counts) (p : ℕ) (old next new : List Front) (work rest : List ℕ) (growths more : List Growth) (marks : List Bool)
    → length old ≡ length flow.nodes → length next ≡ length flow.nodes → IsClimbing flow counts old growths p → AreLedTo flow p marks → AreProposed flow counts marks old next
    → CanLeap flow counts old next → HaveReached flow counts old next new work rest growths more → HaveLeapt flow counts p old new work rest growths more
have_leapt flow counts p old next new work rest growths more marks one two climbs led proposed can r = record {
  grew = r.grew;
  once = r.once;
  admissible = λ a. same-admissible flow counts next new (r.grew.one_each ∙ one) r.below r.above (leap-admissible flow counts old next two can a);
  taken = inl (record { climbs = climbs; marks = marks; led = led; next = next; proposed = proposed; can = can; below = r.below; above = r.above });
}

-- ---- what is read

pub read_subset : (flow : Dataflow) (fs gs : List Front) (p i : ℕ) (x y : Front) (r : Bool) → i ≡ p → AreCanonical flow gs → i < length fs → i < length gs → x ≡ get_or fs i x → y ≡ get_or gs i y
    → ((b : Bounds) → IsCanonical b y → (r ≡ true) ↔ Within (frontier_of b x) (frontier_of b y)) → (r ≡ true) ↔ Within (family_of flow fs p) (family_of flow gs p)
read_subset flow fs gs p i x y r e c l m is was test =
    let b = bounds_of flow p in
    let low : x ≡ front_of fs p = read_at fs p i x [] e l is in
    let high : y ≡ front_of gs p = read_at gs p i y [] e m was in
    let read = test b (subst (IsCanonical b) (sym high) (c p)) in (
      λ k t j. sym (ap (λ g. frontier_of b g t) high) ∙ read.0 k t (ap (λ g. frontier_of b g t) low ∙ j),
      λ w. read.1 (λ t j. ap (λ g. frontier_of b g t) high ∙ w t (sym (ap (λ g. frontier_of b g t) low) ∙ j)),
    )

-- where the next frontier lacks something of the one so far, there is no leap
pub leap_lacks : (flow : Dataflow) (counts : Counts) (old next : List Front) (p : ℕ) (r : Bool) → (r ≡ true) ↔ Within (family_of flow old p) (family_of flow next p) → r ≡ false
    → IsTrue false ↔ CanLeapAt flow counts old next p
leap_lacks flow counts old next p r above none = (λ e. absurd (cc), λ can. absurd (both_ways r none (above.1 can.above)))

-- where it has all of that and no more, there may be one
pub leap_stays : (flow : Dataflow) (counts : Counts) (old next : List Front) (p : ℕ) (r s : Bool) → (r ≡ true) ↔ Within (family_of flow old p) (family_of flow next p) → r ≡ true
    → (s ≡ true) ↔ Within (family_of flow next p) (family_of flow old p) → s ≡ true → IsTrue true ↔ CanLeapAt flow counts old next p
leap_stays flow counts old next p r s above one within two = (λ e. record { above = above.0 one; within = inl (within.0 two) }, λ can. refl)

-- where it has more, it is the largest that it can have
pub leap_most : (flow : Dataflow) (counts : Counts) (old next : List Front) (p : ℕ) (z most : Front) (r s u : Bool) → (r ≡ true) ↔ Within (family_of flow old p) (family_of flow next p) → r ≡ true
    → (s ≡ true) ↔ Within (family_of flow next p) (family_of flow old p) → s ≡ false
    → z ≡ front_of next p → IsFrontOf (bounds_of flow p) most (target_by flow counts (family_of flow next) p)
    → ((b : Bounds) → IsCanonical b most → (u ≡ true) ↔ Within (frontier_of b z) (frontier_of b most)) → IsTrue u ↔ CanLeapAt flow counts old next p
leap_most flow counts old next p z most r s u above one within none here names test =
    let b = bounds_of flow p in
    let read = test b names.canonical in (
      λ k. record { above = above.0 one; within = inr (λ t j. sym (names.same t) ∙ read.0 k t (ap (λ g. frontier_of b g t) here ∙ j)) },
      λ can. elim (can.within) [
        | inl same ↦ absurd (both_ways s none (within.1 same))
        | inr under ↦ read.1 (λ t j. names.same t ∙ under t (sym (ap (λ g. frontier_of b g t) here) ∙ j))
      ],
    )

-- where one node cannot leap, there is no leap
pub cannot_leap : (flow : Dataflow) (counts : Counts) (old next : List Front) (p : ℕ) (b : Bool) → p < length flow.nodes → IsTrue b ↔ CanLeapAt flow counts old next p → b ≡ false
    → IsTrue false ↔ CanLeap flow counts old next
cannot_leap flow counts old next p b l is none = (λ e. absurd (cc), λ can. absurd (both_ways b none (is.1 (can p l))))

pub one_can_leap : (flow : Dataflow) (counts : Counts) (old next : List Front) (n p : ℕ) → p ≡ n → ((q : ℕ) → q < n → CanLeapAt flow counts old next q) → CanLeapAt flow counts old next p
    → (q : ℕ) → q < n + 1 → CanLeapAt flow counts old next q
one_can_leap flow counts old next n p e before here q l = elim (cases_eq q p) [
  | inl s ↦ subst (CanLeapAt flow counts old next) (sym s) here
  | inr s ↦ before q (omega (arith, l, s, e))
]

-- a marked node has no more than it can have
pub leap_low : (flow : Dataflow) (counts : Counts) (old next : List Front) (marks : List Bool) (p i : ℕ) (r m : Bool) → (r ≡ true) ↔ Within (family_of flow old p) (family_of flow next p) → r ≡ true
    → AreLowered flow counts marks next → p < length flow.nodes → m ≡ is_node_marked marks i → i ≡ p → m ≡ true → IsTrue true ↔ CanLeapAt flow counts old next p
leap_low flow counts old next marks p i r m above one low l is at marked =
    (λ e. record { above = above.0 one; within = inr (low p l (ap (is_node_marked marks) (sym at) ∙ sym is ∙ marked)) }, λ can. refl)

-- ---- the marked nodes are lowered

pub low_unmarked : (flow : Dataflow) (counts : Counts) (marks : List Bool) (fronts : List Front) (p i : ℕ) (m : Bool) → i ≡ p → m ≡ is_node_marked marks i → m ≡ false → StaysLow flow counts marks p fronts fronts
low_unmarked flow counts marks fronts p i m e is none = record { same = refl; within = λ marked. absurd (both_ways m none (is ∙ ap (is_node_marked marks) e ∙ marked)) }

-- what a test against the node's target reads
pub low_read : (flow : Dataflow) (counts : Counts) (marks : List Bool) (fronts : List Front) (p i : ℕ) (x most : Front) (r : Bool) → i ≡ p → i < length fronts → x ≡ get_or fronts i x
    → IsFrontOf (bounds_of flow p) most (target_by flow counts (family_of flow fronts) p)
    → ((b : Bounds) → IsCanonical b most → (r ≡ true) ↔ Within (frontier_of b x) (frontier_of b most)) → r ≡ true → StaysLow flow counts marks p fronts fronts
low_read flow counts marks fronts p i x most r e l is names test one =
    let b = bounds_of flow p in
    let here : x ≡ front_of fronts p = read_at fronts p i x [] e l is in
    record { same = refl; within = λ marked t j. sym (names.same t) ∙ (test b names.canonical).0 one t (ap (λ g. frontier_of b g t) here ∙ j) }

-- ---- the marked nodes are raised

pushed-each : (P : ℕ → Front → Type 0) (fronts : List Front) (f : Front) → ((p : ℕ) → P p (front_of fronts p)) → P (length fronts) f
    → (p : ℕ) → P p (front_of (fronts ++ f ∷ []) p)
pushed-each P [] f all one zero = one
pushed-each P [] f all one (suc p) = all (suc p)
pushed-each P (x ∷ fronts) f all one zero = all zero
pushed-each P (x ∷ fronts) f all one (suc p) = pushed-each (λ q. P (suc q)) fronts f (λ q. all (suc q)) one p

pushed-length : (fronts : List Front) (f : Front) → length (fronts ++ f ∷ []) ≡ length fronts + 1
pushed-length [] f = refl
pushed-length (x ∷ fronts) f = omega (arith, pushed-length fronts f)

raised-front : (flow : Dataflow) (fronts : List Front) (p : ℕ) (f : Front) → AreCanonical flow fronts → (f ≡ []) ⊎ (f ≡ front_of fronts p)
    → IsCanonical (bounds_of flow p) f
raised-front flow fronts p f all (inl none) = subst (IsCanonical (bounds_of flow p)) (sym none) tt
raised-front flow fronts p f all (inr same) = subst (IsCanonical (bounds_of flow p)) (sym same) (all p)

-- one front more, with all stamps or as it was
pub raised-one : (flow : Dataflow) (fronts old new : List Front) (p : ℕ) (f : Front) → AreCanonical flow fronts → length old ≡ p → AreCanonical flow old
    → new ≡ old ++ f ∷ [] → (f ≡ []) ⊎ (f ≡ front_of fronts p) → (length new ≡ p + 1) × AreCanonical flow new
raised-one flow fronts old new p f all at before is what = (
  ap (λ (fs : List Front). length fs) is ∙ pushed-length old f ∙ ap (λ n. n + 1) at,
  subst (AreCanonical flow) (sym is)
      (pushed-each (λ q. IsCanonical (bounds_of flow q)) old f before (subst (λ q. IsCanonical (bounds_of flow q) f) (sym at) (raised-front flow fronts p f all what))),
)
