-- The dataflows of the examples are well formed, and so are they with their batches.
use Rattle.std.specs.List.{list_all}
use Rattle.std.specs.Ordering.{is_gt}
use Rattle.std.proofs.Common.{Bool, List, None, [], ap, arith, eq-eqb, eqb-true, false, get_or, inl, inr, length, lit<, lit≤, nat_le, nat_lt, not, refl, suc, sym, true, zero, ℕ, ⊎_elim, ◌&&◌, ◌+◌, ◌<◌, ◌==◌, ◌^◌, ◌||◌, ◌∙◌, ◌∷◌, ◌≡◌, ◌≤◌}
use Rattle.std.proofs.lemmas.Bool.{and_from, and_parts, cases_lt, leb-true, ltb-true, not-true, or_cases, or_right}
use Rattle.std.proofs.lemmas.List.{get_or_past}
use Rattle.fw_lemmas.proofs.Bools.{two_ways}
use Rattle.fw_lemmas.proofs.Each.{each-weaker, each-of_all}
use Rattle.fw_bag.specs.Rec.{rec_cmp}
use Rattle.fw_bag.specs.declared.rec.Rec.{Rec}
use Rattle.fw_flow.specs.Check.{AreWalksRight}
use Rattle.fw_flow.specs.Ranks.{IsWithinRound, is_looped}
use Rattle.fw_flow.specs.Dataflow.{Dataflow, System, batches_of, declared_parent, domain_of, domain_of_kind, in_edges, is_domain_of, is_input_kind, is_output_kind, is_domain_within, kind_of, loops_of, max_of, out_domain_of, out_domain_of_kind, out_edges, parent_of, policy_of, receiver, sender}
use Rattle.fw_flow.specs.WellFormed.{IsClosedWalk, IsGroupSize, IsInDegree, IsLoopDeclared, IsOutDegree, IsPolicyAllowed, IsWalk, IsWellFormed, IsWellFormedSystem, is_feedback_of}
use Rattle.fw_flow.specs.declared.kind.Domain.{Domain}
use Rattle.fw_flow.specs.declared.kind.Domain.TheVariants.{Epoch, Number, Loop as InLoop}
use Rattle.fw_flow.specs.declared.kind.Kind.TheVariants.{Select, Total}
use Rattle.fw_flow.specs.declared.kind.Policy.{Policy}
use Rattle.fw_flow.specs.declared.node.Node.{Node}
use Rattle.fw_flow.proofs.ByRanks.{walks-ranked}
use Rattle.fw_examples.specs.Flows.{at_least_ten, in_a_row, loop_counts_up, one_select_flow, selecting, two_sources_flow}
use Rattle.fw_examples.specs.RunningTotal.{summing}
use Rattle.fw_lines.specs.Batches.{IsBatch}
use Rattle.fw_examples.proofs.Fronts.{by_five, by_one, by_seven, by_six, by_three, by_two, each_below, each_below-at}
use Rattle.fw_flow.specs.declared.kind.Policy.TheVariants as policy

-- ---- closed walks

-- a walk along edges that all lead to later nodes rises by its length
rises : (flow : Dataflow) → ((e : ℕ) → e < length flow.edges → sender flow e < receiver flow e) → (p : ℕ) (es : List ℕ) (q : ℕ) → IsWalk flow p es q → p + length es ≤ q
rises flow up p [] q w = let h : p ≡ q = w in omega arith
rises flow up p (e ∷ es) q w =
    let g : sender flow e ≡ p = w.1 in
    omega (arith, up e w.0, rises flow up (receiver flow e) es q w.2)

-- so none comes back
never_back : (flow : Dataflow) → ((e : ℕ) → e < length flow.edges → sender flow e < receiver flow e) → (p : ℕ) (es : List ℕ) → IsClosedWalk flow p es → ⊥
never_back flow up p es w = omega (arith, w.some, rises flow up p es p w.walk)

-- whether the rank falls along no edge, and rises along it into a node that is not looped
abbrev climbs_along : Dataflow → (ℕ → ℕ) → ℕ → Bool
climbs_along flow lambda e =
    nat_le (lambda (sender flow e)) (lambda (receiver flow e)) && (is_looped flow (receiver flow e) || nat_lt (lambda (sender flow e)) (lambda (receiver flow e)))

-- whether the edge stays within the loop, and leaves no feedback of it
abbrev is_within_round : Dataflow → ℕ → ℕ → Bool
is_within_round flow l e =
    is_domain_within flow l (domain_of flow (sender flow e))
    && (is_domain_within flow l (domain_of flow (receiver flow e)) && not (is_feedback_of l (kind_of flow (sender flow e))))

-- whether the rank does not fall along the edge, if that is within a round of the loop, and rises into a node of its own domain
abbrev climbs_in_round : Dataflow → (ℕ → ℕ) → ℕ → ℕ → Bool
climbs_in_round flow sigma l e =
    not (is_within_round flow l e)
    || (nat_le (sigma (sender flow e)) (sigma (receiver flow e))
    && (not (is_domain_of l (domain_of flow (receiver flow e))) || nat_lt (sigma (sender flow e)) (sigma (receiver flow e))))

-- whether the loop of a domain is one of so many, if it is a loop's
abbrev is_declared_in : ℕ → Domain → Bool
is_declared_in n Epoch = true
is_declared_in n Number = true
is_declared_in n (InLoop l) = nat_lt l n

-- whether the ranks show the closed walks right
abbrev pub are_ranks : Dataflow → (ℕ → ℕ) → (ℕ → ℕ → ℕ) → Bool
are_ranks flow lambda sigma =
    each_below (λ e. is_declared_in (length flow.loops) (domain_of flow (sender flow e))) (length flow.edges)
    && (each_below (climbs_along flow lambda) (length flow.edges)
    && each_below (λ l. each_below (climbs_in_round flow (sigma l) l) (length flow.edges)) (length flow.loops))

declared_by : (n : ℕ) (d : Domain) (l : ℕ) → is_declared_in n d ≡ true → d ≡ InLoop l → l < n
declared_by n Epoch l h e = absurd (cc)
declared_by n Number l h e = absurd (cc)
declared_by n (InLoop k) l h e = let same : k ≡ l = cc in omega (arith, ltb-true k n h)

within_round : (flow : Dataflow) (l e : ℕ) → IsWithinRound flow l e → is_within_round flow l e ≡ true
within_round flow l e r =
    and_from (is_domain_within flow l (domain_of flow (sender flow e)))
    (is_domain_within flow l (domain_of flow (receiver flow e)) && not (is_feedback_of l (kind_of flow (sender flow e)))) r.from
    (and_from (is_domain_within flow l (domain_of flow (receiver flow e))) (not (is_feedback_of l (kind_of flow (sender flow e)))) r.to
    (ap not r.onward))

-- what the test of a loop's rank says of an edge within a round of it
in_round : (flow : Dataflow) (sigma : ℕ → ℕ) (l e : ℕ) → climbs_in_round flow sigma l e ≡ true → IsWithinRound flow l e
    → (nat_le (sigma (sender flow e)) (sigma (receiver flow e)) ≡ true)
    × ((not (is_domain_of l (domain_of flow (receiver flow e))) || nat_lt (sigma (sender flow e)) (sigma (receiver flow e))) ≡ true)
in_round flow sigma l e h r =
    let climbs = nat_le (sigma (sender flow e)) (sigma (receiver flow e)) in
    let own = not (is_domain_of l (domain_of flow (receiver flow e))) || nat_lt (sigma (sender flow e)) (sigma (receiver flow e)) in
    and_parts climbs own (sym (ap (λ b. not b || (climbs && own)) (within_round flow l e r)) ∙ h)

-- such ranks show it
pub walks_by : (flow : Dataflow) (lambda : ℕ → ℕ) (sigma : ℕ → ℕ → ℕ) → are_ranks flow lambda sigma ≡ true → AreWalksRight flow
walks_by flow lambda sigma h =
    let a = and_parts _ _ h in
    let b = and_parts _ _ a.1 in
    let along = λ (e : ℕ) (k : e < length flow.edges). and_parts (nat_le (lambda (sender flow e)) (lambda (receiver flow e)))
    (is_looped flow (receiver flow e) || nat_lt (lambda (sender flow e)) (lambda (receiver flow e))) (each_below-at (climbs_along flow lambda) (length flow.edges) b.0 e k) in
    let rounds = λ (l e : ℕ) (k : l < length flow.loops) (i : e < length flow.edges) (r : IsWithinRound flow l e).
    in_round flow (sigma l) l e
    (each_below-at (climbs_in_round flow (sigma l) l) (length flow.edges)
    (each_below-at (λ l. each_below (climbs_in_round flow (sigma l) l) (length flow.edges)) (length flow.loops) b.1 l k) e i) r in
    walks-ranked flow lambda sigma (record {
      declared = λ l e k d. declared_by (length flow.loops) (domain_of flow (sender flow e)) l
          (each_below-at (λ e. is_declared_in (length flow.loops) (domain_of flow (sender flow e))) (length flow.edges) a.0 e k) d;
      keeps = λ e k. leb-true (lambda (sender flow e)) (lambda (receiver flow e)) (along e k).0;
      rises = λ e k out. ltb-true (lambda (sender flow e)) (lambda (receiver flow e))
          (sym (ap (λ x. x || nat_lt (lambda (sender flow e)) (lambda (receiver flow e))) out) ∙ (along e k).1);
      round_keeps = λ l e k i r. leb-true (sigma l (sender flow e)) (sigma l (receiver flow e)) (rounds l e k i r).0;
      round_rises = λ l e k i r d. ltb-true (sigma l (sender flow e)) (sigma l (receiver flow e))
          (sym (ap (λ x. not (is_domain_of l x) || nat_lt (sigma l (sender flow e)) (sigma l (receiver flow e))) d
          ∙ ap (λ x. not x || nat_lt (sigma l (sender flow e)) (sigma l (receiver flow e))) (eq-eqb l l refl)) ∙ (rounds l e k i r).1);
    })

-- the ranks of nodes as a list
abbrev pub ranked : List ℕ → ℕ → ℕ
ranked ranks p = get_or ranks p 0

-- the walks of the loop that counts up: how far within it a node stands, and where in a round
loop_walks : AreWalksRight loop_counts_up
unfolding kind_of sender receiver parent_of declared_parent loops_of
loop_walks = walks_by loop_counts_up (ranked (0 ∷ 1 ∷ 2 ∷ 2 ∷ 2 ∷ 3 ∷ 4 ∷ [])) (λ l. ranked (0 ∷ 0 ∷ 1 ∷ 2 ∷ 3 ∷ 3 ∷ 3 ∷ [])) refl

pub is_well_formed : IsWellFormed loop_counts_up
unfolding kind_of policy_of sender receiver in_edges out_edges max_of declared_parent parent_of
is_well_formed = record {
  loops_declared = by_seven _ tt (lit< tt) (lit< tt) (lit< tt) (lit< tt) (lit< tt) tt;
  parents_declared = by_one _ tt;
  chains = by_one _ refl;
  senders_declared = by_seven _ (lit< tt) (lit< tt) (lit< tt) (lit< tt) (lit< tt) (lit< tt) (lit< tt);
  receivers_declared = by_seven _ (lit< tt) (lit< tt) (lit< tt) (lit< tt) (lit< tt) (lit< tt) (lit< tt);
  in_degrees = by_seven _ refl refl (lit≤ tt) refl refl refl refl;
  out_degrees = by_seven _ tt tt tt tt tt tt refl;
  domains = by_seven _ refl refl refl refl refl refl refl;
  in_loops = loop_walks.in_loops;
  fed_back = loop_walks.fed_back;
  policies = by_seven _ refl refl tt refl refl refl refl;
  limits = record { nodes = lit≤ tt; edges = lit≤ tt; loops = lit≤ tt; counters = counters; groups = by_seven _ tt tt tt tt tt tt tt };
  input = (0, lit< tt, refl);
  output = (6, lit< tt, refl);
}
  where
    counters : (l : ℕ) → l < 1 → (1 ≤ max_of loop_counts_up l) × (max_of loop_counts_up l ≤ 1024)
    counters zero h = (lit≤ tt, lit≤ tt)
    counters (suc l) h = absurd (omega arith)

-- ---- the dataflows of the examples are well formed

-- whether each edge leads to a later node, and nodes and edges are within the limits, without loops
abbrev pub is_rising : Dataflow → Bool
is_rising flow =
    each_below (λ e. nat_lt (sender flow e) (receiver flow e) && nat_lt (receiver flow e) (length flow.nodes)) (length flow.edges)
    && ((length flow.loops == 0) && (nat_le (length flow.nodes) 256 && nat_le (length flow.edges) 512))

-- such a dataflow is well formed if its nodes and edges are: no walk comes back
pub rising_is_well_formed : (flow : Dataflow) → is_rising flow ≡ true → ((p : ℕ) → p < length flow.nodes → IsLoopDeclared flow (kind_of flow p))
    → ((p : ℕ) → p < length flow.nodes → IsInDegree (kind_of flow p) (length (in_edges flow p)))
    → ((p : ℕ) → p < length flow.nodes → IsOutDegree (kind_of flow p) (length (out_edges flow p)))
    → ((e : ℕ) → e < length flow.edges → out_domain_of flow (sender flow e) ≡ domain_of flow (receiver flow e))
    → ((p : ℕ) → p < length flow.nodes → IsPolicyAllowed (kind_of flow p) (policy_of flow p)) → ((p : ℕ) → p < length flow.nodes → IsGroupSize (kind_of flow p))
    → (p : ℕ) × (p < length flow.nodes) × (is_input_kind (kind_of flow p) ≡ true) → (p : ℕ) × (p < length flow.nodes) × (is_output_kind (kind_of flow p) ≡ true)
    → IsWellFormed flow
rising_is_well_formed flow rising declared ins outs domains policies groups input output =
    let a = and_parts _ _ rising in
    let b = and_parts _ _ a.1 in
    let c = and_parts _ _ b.1 in
    let at = λ (e : ℕ) (l : e < length flow.edges). and_parts _ _ (each_below-at (λ e. nat_lt (sender flow e) (receiver flow e) && nat_lt (receiver flow e) (length flow.nodes)) (length flow.edges) a.0 e l) in
    let up : (e : ℕ) → e < length flow.edges → sender flow e < receiver flow e = λ e l. ltb-true (sender flow e) (receiver flow e) (at e l).0 in
    let there : (e : ℕ) → e < length flow.edges → receiver flow e < length flow.nodes = λ e l. ltb-true (receiver flow e) (length flow.nodes) (at e l).1 in
    let no_loops : length flow.loops ≡ 0 = eqb-true (length flow.loops) 0 b.0 in
    record {
      loops_declared = declared;
      parents_declared = λ l h. absurd (omega arith);
      chains = λ l h. absurd (omega arith);
      senders_declared = λ e l. (let u = up e l in let r = there e l in omega arith);
      receivers_declared = there;
      in_degrees = ins;
      out_degrees = outs;
      domains = domains;
      in_loops = λ p es w passes. never_back flow up p es w;
      fed_back = λ l p es w stays passes. absurd (never_back flow up p es w);
      policies = policies;
      limits = record {
        nodes = leb-true (length flow.nodes) 256 c.0;
        edges = leb-true (length flow.edges) 512 c.1;
        loops = omega arith;
        counters = λ l h. absurd (omega arith);
        groups = groups;
      };
      input = input;
      output = output;
    }

-- a node that has one in-edge and sends at its epochs, between an input and an output
pub row_is_well_formed : (inner : Node) → IsLoopDeclared (in_a_row inner) inner.kind → IsInDegree inner.kind 1 → IsOutDegree inner.kind 1
    → domain_of_kind (in_a_row inner) inner.kind ≡ Epoch → out_domain_of_kind (in_a_row inner) inner.kind ≡ Epoch → IsGroupSize inner.kind
    → IsPolicyAllowed inner.kind inner.policy → IsWellFormed (in_a_row inner)
unfolding kind_of policy_of sender receiver in_edges out_edges
row_is_well_formed inner declared one_in one_out epochs out_epochs group allowed =
    rising_is_well_formed (in_a_row inner) refl (by_three _ tt declared tt) (by_three _ refl one_in refl) (by_three _ tt one_out refl) (by_two _ (sym epochs) out_epochs)
    (by_three _ refl allowed refl) (by_three _ tt group tt) (0, lit< tt, refl) (2, lit< tt, refl)

-- the dataflows of one select and of a running total, with a policy that they may have
pub select_is_well_formed : (keeping : Policy) → IsPolicyAllowed (Select at_least_ten None) keeping → IsWellFormed (in_a_row (selecting keeping))
select_is_well_formed keeping allowed = row_is_well_formed (selecting keeping) tt refl tt refl refl tt allowed

pub total_is_well_formed : (keeping : Policy) → IsPolicyAllowed Total keeping → IsWellFormed (in_a_row (summing keeping))
total_is_well_formed keeping allowed = row_is_well_formed (summing keeping) tt refl tt refl refl tt allowed

pub one_select_is_well_formed : IsWellFormed one_select_flow
one_select_is_well_formed = select_is_well_formed policy.None refl

-- ---- systems

-- whether recs are a batch
abbrev pub is_batch : List Rec → Bool
is_batch [] = true
is_batch (r ∷ rs) = nat_lt r.key (2 ^ 64) && (nat_lt r.value (2 ^ 64) && (list_all (λ s. not (is_gt (rec_cmp r s))) rs && is_batch rs))

batch_by : (rs : List Rec) → is_batch rs ≡ true → IsBatch rs
batch_by [] h = record { recs = tt; ascending = tt }
batch_by (r ∷ rs) h =
    let a = and_parts _ _ h in
    let b = and_parts _ _ a.1 in
    let c = and_parts _ _ b.1 in
    let later = batch_by rs c.1 in
    record {
      recs = (record { key = ltb-true r.key (2 ^ 64) a.0; value = ltb-true r.value (2 ^ 64) b.0 }, later.recs);
      ascending = (each-weaker _ (λ s. is_gt (rec_cmp r s) ≡ false) rs (λ s n. not-true _ n) (each-of_all (λ s. not (is_gt (rec_cmp r s))) rs c.0), later.ascending);
    }

-- whether a node has batches only if it is an input, few of them, and each a batch
abbrev pub has_its_batches : System → ℕ → Bool
has_its_batches sys p =
    (is_input_kind (kind_of sys.flow p) || (length (batches_of sys p) == 0)) && (nat_le (length (batches_of sys p)) (2 ^ 20) && list_all is_batch (batches_of sys p))

past-batches : (sys : System) (p : ℕ) → length sys.batches ≤ p → batches_of sys p ≡ []
unfolding batches_of
past-batches sys p l = get_or_past sys.batches p [] l

pub system_by : (sys : System) → IsWellFormed sys.flow → length sys.batches ≡ length sys.flow.nodes → each_below (has_its_batches sys) (length sys.flow.nodes) ≡ true
    → IsWellFormedSystem sys
system_by sys formed one_each h = record {
  flow = formed;
  one_each = one_each;
  of_inputs = λ p k. none_of (batches_of sys p) (⊎_elim (λ i. absurd (two_ways _ i k)) (λ n. n) (or_cases _ _ (and_parts _ _ (at p)).0));
  few = λ p. leb-true _ (2 ^ 20) (and_parts _ _ (and_parts _ _ (at p)).1).0;
  batches = λ p. each-weaker (λ rs. is_batch rs ≡ true) IsBatch (batches_of sys p) batch_by (each-of_all is_batch (batches_of sys p) (and_parts _ _ (and_parts _ _ (at p)).1).1);
}
  where
    none_of : (xs : List (List Rec)) → (length xs == 0) ≡ true → xs ≡ []
    none_of [] n = refl
    none_of (x ∷ xs) n = let e : suc (length xs) ≡ 0 = eqb-true (suc (length xs)) 0 n in absurd (omega arith)

    at : (p : ℕ) → has_its_batches sys p ≡ true
    at p = elim (cases_lt p (length sys.flow.nodes)) [
      | inl l ↦ each_below-at (has_its_batches sys) (length sys.flow.nodes) h p l
      | inr l ↦
          let none = past-batches sys p (omega arith) in
          and_from _ _ (or_right _ _ (ap (λ (xs : List (List Rec)). length xs == 0) none))
          (and_from _ _ (ap (λ (xs : List (List Rec)). nat_le (length xs) (2 ^ 20)) none) (ap (list_all is_batch) none))
    ]

pub two_sources_is_well_formed : IsWellFormed two_sources_flow
unfolding kind_of policy_of sender receiver in_edges out_edges
two_sources_is_well_formed =
    rising_is_well_formed two_sources_flow refl (by_six _ tt tt tt tt tt tt) (by_six _ refl refl refl (lit≤ tt) refl refl) (by_six _ tt tt tt tt tt refl)
    (by_five _ refl refl refl refl refl) (by_six _ refl refl refl tt refl refl) (by_six _ tt tt tt tt tt tt) (0, lit< tt, refl) (5, lit< tt, refl)
