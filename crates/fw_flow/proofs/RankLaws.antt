-- The ranks of a well-formed dataflow with nested loops, by counting the nodes that reach a node.
use Rattle.std.proofs.Common.{◌≡◌, ℕ, ◌<◌, inl, inr, Bool, true, false, not, ◌&&◌, ◌||◌, ◌==◌, List, [], ◌∷◌, length, refl, sym, ap, ◌∙◌, arith}
use Rattle.std.proofs.lemmas.Bool.{and_parts, and_from, eq-eqb, cases_Bool, false_from_ne_true, false≢true, not-true, not_from_false}
use Rattle.fw_flow.specs.declared.kind.Domain.TheVariants.{Loop as InLoop}
use Rattle.fw_flow.specs.Dataflow.{Dataflow, kind_of, sender, receiver, domain_of, out_domain_of, is_loop, is_domain_within, is_domain_of}
use Rattle.fw_flow.specs.WellFormed.{IsWalk, IsClosedWalk, Passes, is_feedback_kind, StaysWithin, IsWellFormed, is_feedback_of, is_kind_in, is_outside_kind}
use Rattle.fw_flow.specs.Walks.{Graph, IsPath}
use Rattle.fw_flow.proofs.Reach.{reach, Path-from_reach}
use Rattle.fw_flow.proofs.Ranks.{count_below, count_below-strict, level, level-bound, level-keeps, level-rises, IsAcyclic, rank, rank-bound, rank-rises, flow_graph, no_kind, IsClosedWalk-from_Path, Passes-not_path}
use Rattle.fw_flow.proofs.ByRanks.{each-fed_back}
use Rattle.fw_flow.specs.Ranks.{is_looped, IsWithinRound, IsRankOfRounds, RanksExist}

-- ---- the nodes of closed walks

starts_in_loop : (flow : Dataflow) (p : ℕ) (es : List ℕ) (q : ℕ) → 0 < length es → IsWalk flow p es q
    → (Passes flow (is_outside_kind flow) es → ⊥) → is_loop (domain_of flow p) ≡ true
starts_in_loop flow p [] q some h none = absurd (omega arith)
starts_in_loop flow p (e ∷ es) q some h none =
    sym (ap (λ x. is_loop (domain_of flow x)) h.1)
    ∙ elim (cases_Bool (is_loop (domain_of flow (sender flow e)))) [
      | inl inside ↦ inside
      | inr outside ↦ absurd (none (inl (not_from_false (is_loop (domain_of flow (sender flow e))) outside)))
    ]

next_in_loop : (flow : Dataflow) (e : ℕ) (es : List ℕ) (q : ℕ) → IsWalk flow (receiver flow e) es q
    → (Passes flow (is_outside_kind flow) es → ⊥) → is_loop (domain_of flow q) ≡ true → is_loop (domain_of flow (receiver flow e)) ≡ true
next_in_loop flow e [] q h none last = ap (λ x. is_loop (domain_of flow x)) h ∙ last
next_in_loop flow e (f ∷ fs) q h none last = starts_in_loop flow (receiver flow e) (f ∷ fs) q (omega arith) h none

-- a node from which a walk leads that comes back to it, and passes loops alone, is looped
looped_at : (flow : Dataflow) → IsWellFormed flow → (p : ℕ) (es : List ℕ) → 0 < length es → IsWalk flow p es p
    → (Passes flow (is_outside_kind flow) es → ⊥) → is_looped flow p ≡ true
looped_at flow well p [] some h none = absurd (omega arith)
looped_at flow well p (e ∷ es) some h none =
    let here = starts_in_loop flow p (e ∷ es) p some h none in
    let next = next_in_loop flow e es p h.2 (λ x. none (inr x)) here in
    and_from (is_loop (domain_of flow p)) (is_loop (out_domain_of flow p)) here
    (sym (ap (λ x. is_loop (out_domain_of flow x)) h.1) ∙ ap is_loop (well.domains e h.0) ∙ next)

looped_if_again : (flow : Dataflow) → IsWellFormed flow → (p : ℕ) → reach (flow_graph flow no_kind) (length flow.nodes) p p ≡ true → is_looped flow p ≡ true
looped_if_again flow well p h =
    let path = Path-from_reach (flow_graph flow no_kind) (length flow.nodes) p p h in
    let closed = IsClosedWalk-from_Path flow no_kind p path in
    looped_at flow well p path.edges closed.some closed.walk (well.in_loops p path.edges closed)

-- ---- the rounds of a loop

-- the edges that stay within a loop and do not leave a feedback of it
abbrev pub round_graph : Dataflow → ℕ → Graph
round_graph flow l = record {
  size = length flow.edges;
  source = sender flow;
  target = receiver flow;
  is_free = λ e.
      is_domain_within flow l (domain_of flow (sender flow e))
      && (is_domain_within flow l (domain_of flow (receiver flow e)) && not (is_feedback_of l (kind_of flow (sender flow e))));
}

IsWalk-from_round : (flow : Dataflow) (l p : ℕ) (es : List ℕ) (q : ℕ) → IsPath (round_graph flow l) p es q → IsWalk flow p es q
IsWalk-from_round flow l p [] q h = h
IsWalk-from_round flow l p (e ∷ es) q h = (h.0, h.2, IsWalk-from_round flow l (receiver flow e) es q h.3)

StaysWithin-from_round : (flow : Dataflow) (l p : ℕ) (es : List ℕ) (q : ℕ) → IsPath (round_graph flow l) p es q → StaysWithin flow l es
StaysWithin-from_round flow l p [] q h = tt
StaysWithin-from_round flow l p (e ∷ es) q h =
    ((and_parts _ _ h.1).0, StaysWithin-from_round flow l (receiver flow e) es q h.3)

round-not_fed_back : (flow : Dataflow) (l p : ℕ) (es : List ℕ) (q : ℕ) → IsPath (round_graph flow l) p es q → Passes flow (is_feedback_of l) es → ⊥
round-not_fed_back flow l p [] q h passes = passes
round-not_fed_back flow l p (e ∷ es) q h (inl here) =
    let onward = (and_parts _ _ (and_parts _ _ h.1).1).1 in
    false≢true (sym (not-true (is_feedback_of l (kind_of flow (sender flow e))) onward) ∙ here)
round-not_fed_back flow l p (e ∷ es) q h (inr later) = round-not_fed_back flow l (receiver flow e) es q h.3 later

-- whether the domain of the node is this loop's own
abbrev pub stands_in : Dataflow → ℕ → ℕ → Bool
stands_in flow l p = is_kind_in flow l (kind_of flow p)

in-from : (flow : Dataflow) (l p : ℕ) → domain_of flow p ≡ InLoop l → stands_in flow l p ≡ true
in-from flow l p d = ap (is_domain_of l) d ∙ eq-eqb l l refl

passes_first : (flow : Dataflow) (l p : ℕ) (es : List ℕ) (q : ℕ) → 0 < length es → IsWalk flow p es q → stands_in flow l p ≡ true
    → Passes flow (is_kind_in flow l) es
passes_first flow l p [] q some h is = absurd (omega arith)
passes_first flow l p (e ∷ es) q some h is = inl (ap (stands_in flow l) h.1 ∙ is)

-- no round comes back to a node of the loop's own domain
not_again : (flow : Dataflow) → IsWellFormed flow → (l p : ℕ) → stands_in flow l p ≡ true → reach (round_graph flow l) (length flow.nodes) p p ≡ false
not_again flow well l p is =
    false_from_ne_true (reach (round_graph flow l) (length flow.nodes) p p)
    (λ h.
    let path = Path-from_reach (round_graph flow l) (length flow.nodes) p p h in
    let walk = IsWalk-from_round flow l p path.edges p path.path in
    let closed : IsClosedWalk flow p path.edges = record { some = path.some; walk = walk } in
    round-not_fed_back flow l p path.edges p path.path
    (well.fed_back l p path.edges closed (StaysWithin-from_round flow l p path.edges p path.path) (passes_first flow l p path.edges p path.some walk is)))

free : (flow : Dataflow) (l e : ℕ) → IsWithinRound flow l e → (round_graph flow l).is_free e ≡ true
free flow l e r = and_from _ _ r.from (and_from _ _ r.to (not_from_false (is_feedback_of l (kind_of flow (sender flow e))) r.onward))

count_below-some : (test : ℕ → Bool) (n x : ℕ) → x < n → test x ≡ true → 0 < count_below test n
count_below-some test n x lt h =
    let a = count_below-strict (λ y. false) test n x (λ y l e. absurd (false≢true e)) lt refl h in
    omega arith

within_rounds : (flow : Dataflow) → IsWellFormed flow → (l : ℕ) → IsRankOfRounds flow l (level (round_graph flow l) (stands_in flow l) (length flow.nodes))
within_rounds flow well l =
    let n = length flow.nodes in
    let g = round_graph flow l in
    record {
      bound = λ p lt. level-bound g (stands_in flow l) n p;
      some = λ p lt d.
          count_below-some (λ q. stands_in flow l q && ((q == p) || reach g n q p)) n p lt
          (and_from (stands_in flow l p) ((p == p) || reach g n p p) (in-from flow l p d) (ap (λ b. b || reach g n p p) (eq-eqb p p refl)));
      keeps = λ e lt r. level-keeps g (stands_in flow l) n e lt (free flow l e r) (well.senders_declared e lt);
      rises = λ e lt r d.
          let is = in-from flow l (receiver flow e) d in
          level-rises g (stands_in flow l) n e lt (free flow l e r) (well.senders_declared e lt) (well.receivers_declared e lt) is
          (not_again flow well l (receiver flow e) is);
    }

-- each closed walk passes a feedback
acyclic_but_feedback : (flow : Dataflow) → IsWellFormed flow → IsAcyclic (flow_graph flow is_feedback_kind) (length flow.nodes)
acyclic_but_feedback flow well p lt =
    false_from_ne_true (reach (flow_graph flow is_feedback_kind) (length flow.nodes) p p)
    (λ h.
    let path = Path-from_reach (flow_graph flow is_feedback_kind) (length flow.nodes) p p h in
    Passes-not_path flow is_feedback_kind p path.edges p path.path
    (each-fed_back flow well.domains (record { in_loops = well.in_loops; fed_back = well.fed_back }) p path.edges (IsClosedWalk-from_Path flow is_feedback_kind p path)))

-- each well-formed dataflow has ranks
pub ranks-exist : RanksExist
ranks-exist flow well =
    let n = length flow.nodes in
    let g = flow_graph flow no_kind in
    let chosen : ℕ → Bool = λ q. not (is_looped flow q) in
    record {
      rho = rank (flow_graph flow is_feedback_kind) n;
      lambda = level g chosen n;
      sigma = λ l. level (round_graph flow l) (stands_in flow l) n;
      of_rounds = within_rounds flow well;
      within_rounds = record {
        bound = λ p lt. rank-bound (flow_graph flow is_feedback_kind) n p (acyclic_but_feedback flow well) lt;
        rises = λ e lt h.
            rank-rises (flow_graph flow is_feedback_kind) n e (acyclic_but_feedback flow well) lt
            (not_from_false (is_feedback_kind (kind_of flow (sender flow e))) h) (well.senders_declared e lt);
      };
      of_loops = record {
        bound = λ p lt. level-bound g chosen n p;
        keeps = λ e lt. level-keeps g chosen n e lt refl (well.senders_declared e lt);
        rises = λ e lt h.
            level-rises g chosen n e lt refl (well.senders_declared e lt) (well.receivers_declared e lt)
            (not_from_false (is_looped flow (receiver flow e)) h)
            (false_from_ne_true (reach g n (receiver flow e) (receiver flow e))
            (λ again. false≢true (sym h ∙ looped_if_again flow well (receiver flow e) again)));
      };
    }
