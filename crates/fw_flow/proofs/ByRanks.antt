-- Ranks make the rule on closed walks true, and by the rule each closed walk passes a feedback.
use Rattle.std.proofs.Common.{◌≡◌, ◌⊎◌, inl, inr, ℕ, suc, ◌<◌, ◌≤◌, Bool, true, false, ◌&&◌, ◌==◌, List, [], ◌∷◌, length, refl, sym, ap, ◌∙◌, arith}
use Rattle.std.proofs.lemmas.Bool.{and_from, eqb-true, eqb-false, le-leb, cases_Bool, not-true, not_from_false}
use Rattle.fw_flow.specs.declared.kind.Domain.TheVariants.{Loop as InLoop}
use Rattle.fw_flow.specs.Kind.{Kind}
use Rattle.fw_flow.specs.declared.kind.Kind.TheVariants.{Feedback}
use Rattle.fw_flow.specs.Dataflow.{Dataflow, kind_of, sender, receiver, loops_of, domain_of, domain_of_kind, out_domain_of, is_loop, is_domain_within}
use Rattle.fw_flow.specs.WellFormed.{IsWalk, IsClosedWalk, Passes, StaysWithin, is_feedback_kind, is_feedback_of, is_kind_in, is_outside_kind}
use Rattle.fw_flow.specs.Ranks.{is_looped, IsWithinRound}
use Rattle.fw_flow.specs.Depths.{depth_of, is_feedback_at}
use Rattle.fw_flow.specs.Check.{AreWalksRight, IsWalkWrong, JoinsDomains, HoldsBelow}
use Rattle.fw_flow.proofs.Chains.{loops-few}
use Rattle.fw_flow.proofs.Depths.{AreFree, turn, path-from_walk, in_domain-is, return-wrong}

-- ---- a rank along a walk

-- a rank that falls along no edge of these, and rises along each into a node of a kind of this sort
record Climbs (flow : Dataflow) (Among : ℕ → Type 0) (sort : Kind → Bool) (rank : ℕ → ℕ) : Type 0 where
  keeps : (e : ℕ) → e < length flow.edges → Among e → rank (sender flow e) ≤ rank (receiver flow e)
  rises : (e : ℕ) → e < length flow.edges → Among e → sort (kind_of flow (receiver flow e)) ≡ true
      → rank (sender flow e) < rank (receiver flow e)

abbrev AllAmong : (ℕ → Type 0) → List ℕ → Type 0
AllAmong Among [] = Unit {0}
AllAmong Among (e ∷ es) = Among e × AllAmong Among es

climbs : (flow : Dataflow) (Among : ℕ → Type 0) (sort : Kind → Bool) (rank : ℕ → ℕ) → Climbs flow Among sort rank
    → (p : ℕ) (es : List ℕ) (q : ℕ) → IsWalk flow p es q → AllAmong Among es → rank p ≤ rank q
climbs flow Among sort rank c p [] q h a = let e = ap rank h in omega arith
climbs flow Among sort rank c p (x ∷ es) q h a =
    let one = c.keeps x h.0 a.0 in
    let rest = climbs flow Among sort rank c (receiver flow x) es q h.2 a.1 in
    let e = ap rank h.1 in
    omega arith

climbs-into : (flow : Dataflow) (Among : ℕ → Type 0) (sort : Kind → Bool) (rank : ℕ → ℕ) → Climbs flow Among sort rank
    → (p x : ℕ) (es : List ℕ) (q : ℕ) → IsWalk flow p (x ∷ es) q → AllAmong Among (x ∷ es) → sort (kind_of flow q) ≡ true → rank p < rank q
climbs-into flow Among sort rank c p x [] q h a is =
    let one = c.rises x h.0 a.0 (ap (λ n. sort (kind_of flow n)) h.2 ∙ is) in
    let e = ap rank h.1 in
    let f = ap rank h.2 in
    omega arith
climbs-into flow Among sort rank c p x (y ∷ es) q h a is =
    let one = c.keeps x h.0 a.0 in
    let rest = climbs-into flow Among sort rank c (receiver flow x) y es q h.2 a.1 is in
    let e = ap rank h.1 in
    omega arith

climbs-past : (flow : Dataflow) (Among : ℕ → Type 0) (sort : Kind → Bool) (rank : ℕ → ℕ) → Climbs flow Among sort rank
    → (p : ℕ) (es : List ℕ) (q : ℕ) → IsWalk flow p es q → AllAmong Among es → Passes flow sort es
    → (sort (kind_of flow p) ≡ true) ⊎ (rank p < rank q)
climbs-past flow Among sort rank c p [] q h a passes = absurd passes
climbs-past flow Among sort rank c p (x ∷ es) q h a (inl here) = inl (sym (ap (λ n. sort (kind_of flow n)) h.1) ∙ here)
climbs-past flow Among sort rank c p (x ∷ es) q h a (inr later) =
    let e = ap rank h.1 in
    elim (climbs-past flow Among sort rank c (receiver flow x) es q h.2 a.1 later) [
      | inl next ↦
          let one = c.rises x h.0 a.0 next in
          let rest = climbs flow Among sort rank c (receiver flow x) es q h.2 a.1 in
          inr (omega arith)
      | inr rest ↦ let one = c.keeps x h.0 a.0 in inr (omega arith)
    ]

-- along a closed walk no such rank can rise
no_climb : (flow : Dataflow) (Among : ℕ → Type 0) (sort : Kind → Bool) (rank : ℕ → ℕ) → Climbs flow Among sort rank
    → (p : ℕ) (es : List ℕ) → IsWalk flow p es p → AllAmong Among es → Passes flow sort es → ⊥
no_climb flow Among sort rank c p [] h a passes = passes
no_climb flow Among sort rank c p (x ∷ es) h a passes =
    elim (climbs-past flow Among sort rank c p (x ∷ es) p h a passes) [
      | inl is ↦ let l = climbs-into flow Among sort rank c p x es p h a is in absurd (omega arith)
      | inr l ↦ absurd (omega arith)
    ]

-- ---- ranks make the rule true

all : (es : List ℕ) → AllAmong (λ e. Unit {0}) es
all [] = tt
all (e ∷ es) = (tt, all es)

-- a closed walk that stays in a loop is within its rounds, or is fed back
rounds_or_fed_back : (flow : Dataflow) (l p : ℕ) (es : List ℕ) (q : ℕ) → IsWalk flow p es q → StaysWithin flow l es → is_domain_within flow l (domain_of flow q) ≡ true
    → AllAmong (IsWithinRound flow l) es ⊎ Passes flow (is_feedback_of l) es
rounds_or_fed_back flow l p [] q h s last = inl tt
rounds_or_fed_back flow l p (e ∷ es) q h s last =
    elim (cases_Bool (is_feedback_of l (kind_of flow (sender flow e)))) [
      | inl here ↦ inr (inl here)
      | inr onward ↦ elim (rounds_or_fed_back flow l (receiver flow e) es q h.2 s.1 last) [
        | inr later ↦ inr (inr later)
        | inl rest ↦ inl (record { from = s.0; to = first flow l (receiver flow e) es q h.2 s.1 last; onward = onward }, rest)
      ]
    ]
  where
    first : (flow : Dataflow) (l p : ℕ) (es : List ℕ) (q : ℕ) → IsWalk flow p es q → StaysWithin flow l es → is_domain_within flow l (domain_of flow q) ≡ true
        → is_domain_within flow l (domain_of flow p) ≡ true
    first flow l p [] q h s last = ap (λ x. is_domain_within flow l (domain_of flow x)) h ∙ last
    first flow l p (e ∷ es) q h s last = sym (ap (λ x. is_domain_within flow l (domain_of flow x)) h.1) ∙ s.0

begins_within : (flow : Dataflow) (l p : ℕ) (es : List ℕ) (q : ℕ) → 0 < length es → IsWalk flow p es q → StaysWithin flow l es → is_domain_within flow l (domain_of flow p) ≡ true
begins_within flow l p [] q some h s = absurd (omega arith)
begins_within flow l p (e ∷ es) q some h s = sym (ap (λ x. is_domain_within flow l (domain_of flow x)) h.1) ∙ s.0

-- ranks that show the closed walks of a dataflow right: one that falls along no edge and rises along each into a node that is not
-- looped; and for each loop one that falls along no edge within a round of it, and rises along each of these into a node of its own
-- domain
pub record AreRanked (flow : Dataflow) (lambda : ℕ → ℕ) (sigma : ℕ → ℕ → ℕ) : Type 0 where
  pub declared : (l e : ℕ) → e < length flow.edges → domain_of flow (sender flow e) ≡ InLoop l → l < length flow.loops
  pub keeps : (e : ℕ) → e < length flow.edges → lambda (sender flow e) ≤ lambda (receiver flow e)
  pub rises : (e : ℕ) → e < length flow.edges → is_looped flow (receiver flow e) ≡ false → lambda (sender flow e) < lambda (receiver flow e)
  pub round_keeps : (l e : ℕ) → l < length flow.loops → e < length flow.edges → IsWithinRound flow l e → sigma l (sender flow e) ≤ sigma l (receiver flow e)
  pub round_rises : (l e : ℕ) → l < length flow.loops → e < length flow.edges → IsWithinRound flow l e → domain_of flow (receiver flow e) ≡ InLoop l
      → sigma l (sender flow e) < sigma l (receiver flow e)

-- a loop whose own domain a walk passes is declared
passes-declared : (flow : Dataflow) (lambda : ℕ → ℕ) (sigma : ℕ → ℕ → ℕ) → AreRanked flow lambda sigma → (l p : ℕ) (es : List ℕ) (q : ℕ) → IsWalk flow p es q
    → Passes flow (is_kind_in flow l) es → l < length flow.loops
passes-declared flow lambda sigma r l p [] q h passes = absurd passes
passes-declared flow lambda sigma r l p (e ∷ es) q h (inl here) = r.declared l e h.0 (in_domain-is l (domain_of flow (sender flow e)) here)
passes-declared flow lambda sigma r l p (e ∷ es) q h (inr later) = passes-declared flow lambda sigma r l (receiver flow e) es q h.2 later

pub walks-ranked : (flow : Dataflow) (lambda : ℕ → ℕ) (sigma : ℕ → ℕ → ℕ) → AreRanked flow lambda sigma → AreWalksRight flow
walks-ranked flow lambda sigma r = record {
  in_loops = λ p es closed passes.
      no_climb flow (λ e. Unit {0}) (is_outside_kind flow) lambda
      (record {
        keeps = λ e l u. r.keeps e l;
        rises = λ e l u out. r.rises e l
            (ap (λ b. b && is_loop (out_domain_of flow (receiver flow e))) (not-true (is_loop (domain_of flow (receiver flow e))) out));
      }) p es closed.walk (all es) passes;
  fed_back = λ l p es closed stays passes.
      let declared = passes-declared flow lambda sigma r l p es p closed.walk passes in
      elim (rounds_or_fed_back flow l p es p closed.walk stays (begins_within flow l p es p closed.some closed.walk stays)) [
        | inr fed ↦ fed
        | inl rounds ↦ absurd (no_climb flow (IsWithinRound flow l) (is_kind_in flow l) (sigma l)
            (record {
              keeps = λ e k u. r.round_keeps l e declared k u;
              rises = λ e k u own. r.round_rises l e declared k u (in_domain-is l (domain_of flow (receiver flow e)) own);
            }) p es closed.walk rounds passes)
      ];
}

-- ---- each closed walk passes a feedback

-- the nodes that a walk leaves lie in at least so many loops, and are no feedback
abbrev AreDeep : Dataflow → ℕ → List ℕ → Type 0
AreDeep flow j [] = Unit {0}
AreDeep flow j (e ∷ es) = (j ≤ depth_of flow (sender flow e)) × ((is_feedback_kind (kind_of flow (sender flow e)) ≡ false) × AreDeep flow j es)

deep_or_fed_back : (flow : Dataflow) (es : List ℕ) → AreDeep flow 0 es ⊎ Passes flow is_feedback_kind es
deep_or_fed_back flow [] = inl tt
deep_or_fed_back flow (e ∷ es) = elim (cases_Bool (is_feedback_kind (kind_of flow (sender flow e)))) [
  | inl here ↦ inr (inl here)
  | inr onward ↦ elim (deep_or_fed_back flow es) [
    | inl rest ↦ inl (omega arith, (onward, rest))
    | inr later ↦ inr (inr later)
  ]
]

no_feedback_at : (flow : Dataflow) (j : ℕ) (kind : Kind) → is_feedback_kind kind ≡ false → is_feedback_at flow j kind ≡ false
no_feedback_at flow j (Feedback l) h = absurd (cc)
no_feedback_at flow j kind h = refl

starts_deep : (flow : Dataflow) (j p : ℕ) (es : List ℕ) (q : ℕ) → IsWalk flow p es q → AreDeep flow j es → j ≤ depth_of flow q → j ≤ depth_of flow p
starts_deep flow j p [] q h d last = let e = ap (depth_of flow) h in omega arith
starts_deep flow j p (e ∷ es) q h d last = let s = ap (depth_of flow) h.1 in let k = d.0 in omega arith

free-deep : (flow : Dataflow) (j p : ℕ) (es : List ℕ) (q : ℕ) → IsWalk flow p es q → AreDeep flow j es → j ≤ depth_of flow q → AreFree flow j es
free-deep flow j p [] q h d last = tt
free-deep flow j p (e ∷ es) q h d last = (
  and_from _ _ (le-leb _ _ d.0)
      (and_from _ _ (le-leb _ _ (starts_deep flow j (receiver flow e) es q h.2 d.1.1 last))
      (not_from_false _ (no_feedback_at flow j (kind_of flow (sender flow e)) d.1.0))),
  free-deep flow j (receiver flow e) es q h.2 d.1.1 last,
)

deeper : (flow : Dataflow) (j : ℕ) (es : List ℕ) → AreDeep flow j es
    → Passes flow (λ kind. length (loops_of flow (domain_of_kind flow kind)) == j) es ⊎ AreDeep flow (suc j) es
deeper flow j [] d = inr tt
deeper flow j (e ∷ es) d = elim (cases_Bool (depth_of flow (sender flow e) == j)) [
  | inl here ↦ inl (inl here)
  | inr other ↦ elim (deeper flow j es d.1.1) [
    | inl later ↦ inl (inr later)
    | inr rest ↦
        let k : j ≤ depth_of flow (sender flow e) = d.0 in
        let n = eqb-false (depth_of flow (sender flow e)) j other in
        inr (more (depth_of flow (sender flow e)) k n, (d.1.0, rest))
  ]
]
  where
    more : (n : ℕ) → j ≤ n → (n ≡ j → ⊥) → suc j ≤ n
    more n k h = grind arith

ends_deep : (flow : Dataflow) (j p : ℕ) (es : List ℕ) → 0 < length es → IsWalk flow p es p → AreDeep flow j es → j ≤ depth_of flow p
ends_deep flow j p es some h d = by es some h d
  where
    by : (es : List ℕ) → 0 < length es → IsWalk flow p es p → AreDeep flow j es → j ≤ depth_of flow p
    by [] some h d = absurd (omega arith)
    by (e ∷ es) some h d = let s = ap (depth_of flow) h.1 in let k = d.0 in omega arith

right-not_wrong : (flow : Dataflow) → AreWalksRight flow → IsWalkWrong flow → ⊥
right-not_wrong flow right (inl walk) = right.in_loops walk.node walk.edges walk.closed walk.passes
right-not_wrong flow right (inr walk) = walk.1.avoids (right.fed_back walk.0 walk.1.node walk.1.edges walk.1.closed walk.1.stays walk.1.passes)

go_deeper : (flow : Dataflow) → HoldsBelow (JoinsDomains flow) (length flow.edges) → AreWalksRight flow → (p : ℕ) (es : List ℕ) → IsClosedWalk flow p es → (j : ℕ) → AreDeep flow j es → AreDeep flow (suc j) es
go_deeper flow joins right p es closed j d = elim (deeper flow j es d) [
  | inr more ↦ more
  | inl passes ↦
      let path = path-from_walk flow j p es p closed.walk (free-deep flow j p es p closed.walk d (ends_deep flow j p es closed.some closed.walk d)) in
      let t = turn flow j (λ kind. length (loops_of flow (domain_of_kind flow kind)) == j) p p [] es refl path passes in
      absurd (right-not_wrong flow right (return-wrong flow joins j (record { node = t.node; at = eqb-true (depth_of flow t.node) j t.is; path = t.path })))
]

-- where edges join equal domains and the closed walks are right, each of them passes a feedback of some loop
pub each-fed_back : (flow : Dataflow) → HoldsBelow (JoinsDomains flow) (length flow.edges) → AreWalksRight flow
    → (p : ℕ) (es : List ℕ) → IsClosedWalk flow p es → Passes flow is_feedback_kind es
each-fed_back flow joins right p es closed = elim (deep_or_fed_back flow es) [
  | inr fed ↦ fed
  | inl d ↦
      let go = go_deeper flow joins right p es closed in
      let four = go 3 (go 2 (go 1 (go 0 d))) in
      let deep : 4 ≤ depth_of flow p = ends_deep flow 4 p es closed.some closed.walk four in
      let few : depth_of flow p ≤ 3 = loops-few flow (domain_of flow p) in
      absurd (omega arith)
]
