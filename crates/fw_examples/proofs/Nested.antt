-- The loop within a loop is well formed; what its rounds come to, and how a frontier inside the inner loop is projected.
use Rattle.std.proofs.Common.{List, [], ap, arith, false, get_or, lit<, lit≤, refl, ℕ, ◌++◌, ◌∙◌, ◌∷◌, ◌≡◌}
use Rattle.std.proofs.lemmas.Bool.Decides.{nat_tests}
use Rattle.fw_bag.specs.declared.rec.Rec.{Rec}
use Rattle.fw_time.specs.Stamp.{Stamp, same}
use Rattle.fw_flow.specs.Check.{AreWalksRight}
use Rattle.fw_flow.specs.Dataflow.{batches_of, bounds_of, declared_parent, in_edges, kind_of, loops_of, max_of, out_edges, parent_of, policy_of, receiver, sender}
use Rattle.fw_flow.specs.Projection.{phi_by_count, psi}
use Rattle.fw_flow.specs.WellFormed.{IsWellFormed}
use Rattle.fw_flow.specs.WholeBags.{timed_where, timed_recs}
use Rattle.fw_flow.specs.KeyParts.{is_carried, part_of}
use Rattle.fw_model.specs.Carried.{carried_timed}
use Rattle.fw_model.specs.Denotation.{IsDenotation, rounds}
use Rattle.fw_examples.specs.Flows.{pair}
use Rattle.fw_examples.specs.Nested.{OneRecCountsUp, ProjectsFromInnerLoop, nested_loops, one_rec}
use Rattle.fw_examples.proofs.Fronts.{all_twelve, by_eleven, by_twelve, by_two, within_three, within_two}
use Rattle.fw_examples.proofs.Loop.{recs_where-none}
use Rattle.fw_examples.proofs.WellFormed.{ranked, walks_by}

-- ---- the flow is well formed

-- where in a round of the outer loop a node stands, and where in one of the inner loop
round_ranks : List (List ℕ)
round_ranks = (0 ∷ 0 ∷ 1 ∷ 2 ∷ 2 ∷ 2 ∷ 2 ∷ 2 ∷ 3 ∷ 3 ∷ 3 ∷ []) ∷ (0 ∷ 0 ∷ 0 ∷ 0 ∷ 1 ∷ 2 ∷ 3 ∷ 3 ∷ 3 ∷ 3 ∷ 3 ∷ []) ∷ []

nested_walks : AreWalksRight nested_loops
unfolding kind_of sender receiver parent_of declared_parent loops_of round_ranks
nested_walks = walks_by nested_loops (ranked (0 ∷ 1 ∷ 1 ∷ 1 ∷ 1 ∷ 1 ∷ 1 ∷ 1 ∷ 1 ∷ 2 ∷ 3 ∷ [])) (λ l. ranked (get_or round_ranks l [])) refl

pub nested_is_well_formed : IsWellFormed nested_loops
unfolding kind_of policy_of sender receiver in_edges out_edges max_of declared_parent parent_of loops_of
nested_is_well_formed = record {
  loops_declared = by_eleven _ tt (lit< tt) (lit< tt) (lit< tt) (lit< tt) (lit< tt) (lit< tt) (lit< tt) (lit< tt) (lit< tt) tt;
  parents_declared = by_two _ tt (lit< tt);
  chains = by_two _ refl refl;
  senders_declared = by_twelve _ (lit< tt) (lit< tt) (lit< tt) (lit< tt) (lit< tt) (lit< tt) (lit< tt) (lit< tt) (lit< tt) (lit< tt) (lit< tt) (lit< tt);
  receivers_declared = by_twelve _ (lit< tt) (lit< tt) (lit< tt) (lit< tt) (lit< tt) (lit< tt) (lit< tt) (lit< tt) (lit< tt) (lit< tt) (lit< tt) (lit< tt);
  in_degrees = by_eleven _ refl refl (lit≤ tt) refl (lit≤ tt) refl refl refl refl refl refl;
  out_degrees = by_eleven _ tt tt tt tt tt tt tt tt tt tt refl;
  domains = by_twelve _ refl refl refl refl refl refl refl refl refl refl refl refl;
  in_loops = nested_walks.in_loops;
  fed_back = nested_walks.fed_back;
  policies = by_eleven _ refl refl refl refl tt refl refl refl refl refl refl;
  limits = record { nodes = lit≤ tt; edges = lit≤ tt; loops = lit≤ tt; counters = by_two _ (lit≤ tt, lit≤ tt) (lit≤ tt, lit≤ tt); groups = by_eleven _ tt tt tt tt tt tt tt tt tt tt tt };
  input = (0, lit< tt, refl);
  output = (10, lit< tt, refl);
}

-- ---- what a batch denotes

counted : List Rec
counted = pair 1 1 ∷ pair 1 2 ∷ pair 1 2 ∷ pair 1 3 ∷ pair 1 3 ∷ pair 1 4 ∷ []

one_rec_solves : IsDenotation one_rec (rounds one_rec 20)
unfolding kind_of sender in_edges batches_of max_of carried_timed is_carried part_of receiver
one_rec_solves = all_twelve _ refl refl refl refl refl refl refl refl refl refl refl refl (λ e. refl)

one_rec_at_output : rounds one_rec 20 11 ≡ timed_recs (0 ∷ []) counted ++ []
unfolding kind_of sender in_edges batches_of max_of counted carried_timed is_carried part_of receiver
one_rec_at_output = refl

one_rec_first : timed_where (same (0 ∷ [])) (rounds one_rec 20 11) ≡ (pair 1 1 ∷ pair 1 2 ∷ pair 1 2 ∷ pair 1 3 ∷ pair 1 3 ∷ pair 1 4 ∷ [])
unfolding counted
one_rec_first = ap (timed_where (same (0 ∷ []))) one_rec_at_output

one_rec_no_more : (t : Stamp) → same t (0 ∷ []) ≡ false → timed_where (same t) (rounds one_rec 20 11) ≡ []
one_rec_no_more t h = ap (timed_where (same t)) one_rec_at_output ∙ recs_where-none t (0 ∷ []) counted [] h refl

pub one_rec_counts_up : OneRecCountsUp
one_rec_counts_up = record { solves = one_rec_solves; first = one_rec_first; no_more = one_rec_no_more }

-- ---- projections out of the inner loop

pub projects_from_inner : ProjectsFromInnerLoop
unfolding phi_by_count psi kind_of sender receiver bounds_of max_of parent_of declared_parent loops_of
projects_from_inner = record {
  fed_back = λ count. (
    within_three 4294967295 1 1 _ _ (λ x y z hx hy hz h. grind (arith, nat_tests)),
    within_three 4294967295 1 1 _ _ (λ x y z hx hy hz h. grind (arith, nat_tests)),
  );
  left = λ count. (
    within_two 4294967295 1 _ _ (λ x y hx hy h. grind (arith, nat_tests)),
    within_two 4294967295 1 _ _ (λ x y hx hy h. grind (arith, nat_tests)),
  );
  may_leave = (
    within_two 4294967295 1 _ _ (λ x y hx hy h. grind (arith, nat_tests)),
    within_two 4294967295 1 _ _ (λ x y hx hy h. grind (arith, nat_tests)),
  );
}
