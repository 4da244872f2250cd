-- Ranks of a graph's nodes by counting the nodes that reach them, and the ranks of a dataflow's nodes.
use Rattle.std.proofs.Common.{◌≡◌, ℕ, zero, suc, ◌+◌, ◌<◌, ◌≤◌, ◌⊎◌, inl, inr, Bool, true, false, not, ◌&&◌, ◌||◌, ◌==◌, cond, List, [], ◌∷◌, length, refl, sym, ap, ◌∙◌, subst, arith}
use Rattle.std.proofs.lemmas.Bool.{or_cases, or_left, or_right, and_parts, and_from, eqb-true, eq-eqb, cases_Bool, cases_lt, false_from_ne_true, true≢false, false≢true, not-true, not_from_false}
use Rattle.fw_flow.specs.Kind.{Kind}
use Rattle.fw_flow.specs.Dataflow.{Dataflow, kind_of, sender, receiver}
use Rattle.fw_flow.specs.WellFormed.{IsWalk, IsClosedWalk, Passes}
use Rattle.fw_flow.specs.Walks.{Graph, IsPath, Path}
use Rattle.fw_flow.proofs.Reach.{reach, reach-join, reach-from_edge}

-- ---- counts of the numbers below n that pass a test

abbrev pub count_below : (ℕ → Bool) → ℕ → ℕ
count_below test zero = 0
count_below test (suc n) = cond (test n) 1 0 + count_below test n

one_le : (a : Bool) → cond a 1 0 ≤ 1
one_le true = omega arith
one_le false = omega arith

one_mono : (a b : Bool) → (a ≡ true → b ≡ true) → cond a 1 0 ≤ cond b 1 0
one_mono true true h = omega arith
one_mono true false h = absurd (false≢true (h refl))
one_mono false true h = omega arith
one_mono false false h = omega arith

one_strict : (a b : Bool) → a ≡ false → b ≡ true → cond a 1 0 < cond b 1 0
one_strict true b h k = absurd (true≢false h)
one_strict false true h k = omega arith
one_strict false false h k = absurd (false≢true k)

pub count_below-bound : (test : ℕ → Bool) (n : ℕ) → count_below test n ≤ n
count_below-bound test zero = omega arith
count_below-bound test (suc n) = omega (arith, one_le (test n), count_below-bound test n)

pub count_below-missing : (test : ℕ → Bool) (n x : ℕ) → x < n → test x ≡ false → count_below test n < n
count_below-missing test zero x lt h = absurd (omega arith)
count_below-missing test (suc n) x lt h =
    elim (cases_lt x n) [
      | inl below ↦ omega (arith, one_le (test n), count_below-missing test n x below h)
      | inr above ↦
          let same : n ≡ x = omega arith in
          omega (arith, count_below-bound test n, one_strict (test n) true (ap test same ∙ h) refl)
    ]

pub count_below-mono : (test more : ℕ → Bool) (n : ℕ) → ((x : ℕ) → x < n → test x ≡ true → more x ≡ true) → count_below test n ≤ count_below more n
count_below-mono test more zero h = omega arith
count_below-mono test more (suc n) h =
    omega (arith, one_mono (test n) (more n) (h n (omega arith)), count_below-mono test more n (λ x lt. h x (omega arith)))

pub count_below-strict : (test more : ℕ → Bool) (n x : ℕ) → ((y : ℕ) → y < n → test y ≡ true → more y ≡ true) → x < n → test x ≡ false → more x ≡ true
    → count_below test n < count_below more n
count_below-strict test more zero x h lt a b = absurd (omega arith)
count_below-strict test more (suc n) x h lt a b =
    elim (cases_lt x n) [
      | inl below ↦
          omega (arith, one_mono (test n) (more n) (h n (omega arith)), count_below-strict test more n x (λ y l. h y (omega arith)) below a b)
      | inr above ↦
          let same : n ≡ x = omega arith in
          omega (arith, one_strict (test n) (more n) (ap test same ∙ a) (ap more same ∙ b), count_below-mono test more n (λ y l. h y (omega arith)))
    ]

-- ---- ranks in a graph

-- no node among the first n reaches itself
abbrev pub IsAcyclic : Graph → ℕ → Type 0
IsAcyclic g n = (p : ℕ) → p < n → reach g n p p ≡ false

-- how many nodes reach p
abbrev pub rank : Graph → ℕ → ℕ → ℕ
rank g n p = count_below (λ q. reach g n q p) n

pub rank-bound : (g : Graph) (n p : ℕ) → IsAcyclic g n → p < n → rank g n p < n
rank-bound g n p acyclic lt = count_below-missing (λ q. reach g n q p) n p lt (acyclic p lt)

pub rank-rises : (g : Graph) (n e : ℕ) → IsAcyclic g n → e < g.size → g.is_free e ≡ true → g.source e < n → rank g n (g.source e) < rank g n (g.target e)
rank-rises g n e acyclic lt free inside =
    let edge = reach-from_edge g n e lt free in
    count_below-strict (λ q. reach g n q (g.source e)) (λ q. reach g n q (g.target e)) n (g.source e)
    (λ q below h. reach-join g n (g.source e) q (g.target e) inside h edge)
    inside (acyclic (g.source e) inside) edge

-- how many chosen nodes are p or reach p
abbrev pub level : Graph → (ℕ → Bool) → ℕ → ℕ → ℕ
level g chosen n p = count_below (λ q. chosen q && ((q == p) || reach g n q p)) n

pub level-bound : (g : Graph) (chosen : ℕ → Bool) (n p : ℕ) → level g chosen n p ≤ n
level-bound g chosen n p = count_below-bound (λ q. chosen q && ((q == p) || reach g n q p)) n

-- what is the source of an edge or reaches it reaches its target
pub reach-past : (g : Graph) (n e q : ℕ) → e < g.size → g.is_free e ≡ true → g.source e < n → ((q == g.source e) || reach g n q (g.source e)) ≡ true
    → reach g n q (g.target e) ≡ true
reach-past g n e q lt free inside h =
    elim (or_cases (q == g.source e) (reach g n q (g.source e)) h) [
      | inl same ↦ subst (λ x. reach g n x (g.target e) ≡ true) (sym (eqb-true q (g.source e) same)) (reach-from_edge g n e lt free)
      | inr before ↦ reach-join g n (g.source e) q (g.target e) inside before (reach-from_edge g n e lt free)
    ]

level_step : (g : Graph) (chosen : ℕ → Bool) (n e q : ℕ) → e < g.size → g.is_free e ≡ true → g.source e < n
    → (chosen q && ((q == g.source e) || reach g n q (g.source e))) ≡ true → (chosen q && ((q == g.target e) || reach g n q (g.target e))) ≡ true
level_step g chosen n e q lt free inside h =
    let parts = and_parts (chosen q) ((q == g.source e) || reach g n q (g.source e)) h in
    and_from (chosen q) ((q == g.target e) || reach g n q (g.target e)) parts.0
    (or_right (q == g.target e) (reach g n q (g.target e)) (reach-past g n e q lt free inside parts.1))

pub level-keeps : (g : Graph) (chosen : ℕ → Bool) (n e : ℕ) → e < g.size → g.is_free e ≡ true → g.source e < n
    → level g chosen n (g.source e) ≤ level g chosen n (g.target e)
level-keeps g chosen n e lt free inside =
    count_below-mono (λ q. chosen q && ((q == g.source e) || reach g n q (g.source e))) (λ q. chosen q && ((q == g.target e) || reach g n q (g.target e))) n
    (λ q below h. level_step g chosen n e q lt free inside h)

pub level-rises : (g : Graph) (chosen : ℕ → Bool) (n e : ℕ) → e < g.size → g.is_free e ≡ true → g.source e < n → g.target e < n
    → chosen (g.target e) ≡ true → reach g n (g.target e) (g.target e) ≡ false
    → level g chosen n (g.source e) < level g chosen n (g.target e)
level-rises g chosen n e lt free inside target_inside is_chosen not_again =
    let t = g.target e in
    let s = g.source e in
    count_below-strict (λ q. chosen q && ((q == s) || reach g n q s)) (λ q. chosen q && ((q == t) || reach g n q t)) n t
    (λ q below h. level_step g chosen n e q lt free inside h)
    target_inside
    (false_from_ne_true (chosen t && ((t == s) || reach g n t s))
    (λ h. false≢true (sym not_again ∙ reach-past g n e t lt free inside (and_parts (chosen t) ((t == s) || reach g n t s) h).1)))
    (and_from (chosen t) ((t == t) || reach g n t t) is_chosen (or_left (t == t) (reach g n t t) (eq-eqb t t refl)))

-- ---- a dataflow's edges as a graph

-- all edges are free but those that leave a node of a kind of this sort
abbrev pub flow_graph : Dataflow → (Kind → Bool) → Graph
flow_graph flow sort = record {
  size = length flow.edges;
  source = sender flow;
  target = receiver flow;
  is_free = λ e. not (sort (kind_of flow (sender flow e)));
}

-- no kind is of this sort
abbrev pub no_kind : Kind → Bool
no_kind kind = false

pub IsWalk-from_path : (flow : Dataflow) (sort : Kind → Bool) (p : ℕ) (es : List ℕ) (q : ℕ) → IsPath (flow_graph flow sort) p es q → IsWalk flow p es q
IsWalk-from_path flow sort p [] q h = h
IsWalk-from_path flow sort p (e ∷ es) q h = (h.0, h.2, IsWalk-from_path flow sort (receiver flow e) es q h.3)

-- a path passes no barred node
pub Passes-not_path : (flow : Dataflow) (sort : Kind → Bool) (p : ℕ) (es : List ℕ) (q : ℕ) → IsPath (flow_graph flow sort) p es q → Passes flow sort es → ⊥
Passes-not_path flow sort p [] q h passes = passes
Passes-not_path flow sort p (e ∷ es) q h (inl here) = false≢true (sym (not-true (sort (kind_of flow (sender flow e))) h.1) ∙ here)
Passes-not_path flow sort p (e ∷ es) q h (inr later) = Passes-not_path flow sort (receiver flow e) es q h.3 later

-- a walk passes a node of the sort, or is a path that avoids them
pub path_or_passes : (flow : Dataflow) (sort : Kind → Bool) (p : ℕ) (es : List ℕ) (q : ℕ) → IsWalk flow p es q
    → (IsPath (flow_graph flow sort) p es q) ⊎ (Passes flow sort es)
path_or_passes flow sort p [] q h = inl h
path_or_passes flow sort p (e ∷ es) q h =
    elim (cases_Bool (sort (kind_of flow (sender flow e)))) [
      | inl here ↦ inr (inl here)
      | inr free ↦
          elim (path_or_passes flow sort (receiver flow e) es q h.2) [
            | inl rest ↦ inl (h.0, not_from_false (sort (kind_of flow (sender flow e))) free, h.1, rest)
            | inr later ↦ inr (inr later)
          ]
    ]

pub IsClosedWalk-from_Path : (flow : Dataflow) (sort : Kind → Bool) (p : ℕ) (path : Path (flow_graph flow sort) p p) → IsClosedWalk flow p path.edges
IsClosedWalk-from_Path flow sort p path = record { some = path.some; walk = IsWalk-from_path flow sort p path.edges p path.path }
