-- The recovery of the loop within a loop: what is complete, the run to the failure, and that the choice is the largest.
use Rattle.std.proofs.Common.{List, None, [], ap, arith, drop, get_or, lit<, refl, replicate, suc, take, true, ℕ, ◌++◌, ◌<◌, ◌∷◌, ◌≡◌}
use Rattle.std.proofs.lemmas.Bool.{and_from, and_parts}
use Rattle.std.proofs.lemmas.Bool.Decides.{nat_tests}
use Rattle.fw_lemmas.proofs.Bools.{two_ways}
use Rattle.fw_time.specs.Stamp.{Stamp, in_domain, same}
use Rattle.fw_frontier.specs.Front.{inside}
use Rattle.fw_frontier.specs.Frontier.{Frontier, Within}
use Rattle.fw_flow.specs.Dataflow.{batches_of, bounds_of, declared_parent, kind_of, loops_of, max_of, node_frontier, parent_of, policy_of, receiver, sender}
use Rattle.fw_flow.specs.NodeFunction.{sends}
use Rattle.fw_flow.specs.Projection.{phi, psi}
use Rattle.fw_flow.specs.declared.choice.Choice.{Choice}
use Rattle.fw_flow.specs.declared.choice.Cut.{Cut}
use Rattle.fw_flow.specs.declared.choice.Cut.TheVariants.{At}
use Rattle.fw_flow.specs.declared.step.Step.{Step}
use Rattle.fw_flow.specs.declared.step.Step.TheVariants as step
use Rattle.fw_flow.specs.KeyParts.{is_carried, part_of}
use Rattle.fw_model.specs.Carried.{carried}
use Rattle.fw_model.specs.Choice.{IsConsistent, IsCutWithin, IsLargest, cut_of, kept, notice_of}
use Rattle.fw_model.specs.History.{IsAdmissible, IsComplete, pending_messages, some_at}
use Rattle.fw_model.specs.Machine.{Machine, events, first_state, front_of, is_failed}
use Rattle.fw_model.specs.Steps.{Outcome, Run, StepsTo, cuts, did, offers, recovered_state, silent}
use Rattle.fw_model.proofs.GoingOn.{runs-go_on}
use Rattle.fw_model.proofs.PhiLaws.{phi-monotone}
use Rattle.fw_examples.specs.Flows.{pair}
use Rattle.fw_examples.specs.Loop.{message, with_serials}
use Rattle.fw_examples.specs.Nested.{RecoversInsideInnerLoop, complete_once, counted_once, cut_inside, first_round, nested_loops, nested_steps, one_rec, second_count_failed, second_round}
use Rattle.fw_examples.proofs.Choosing.{canonical_notices, delivered_by, discarded_by, next_notice, notified_by, offered_by, offered_within, own_by, recovers_to, set_within}
use Rattle.fw_examples.proofs.Fronts.{all_eleven, by_eleven, by_twelve, not_above, within_one, within_three, within_two}
use Rattle.fw_examples.proofs.Nested.{nested_is_well_formed}
use Rattle.fw_examples.proofs.Plays.{Move, after_all, deliver, fail, inject, plays}
use Rattle.fw_examples.proofs.Settling.{admissible_with, next_within, settles_complete}

-- ---- what is complete after the first round

-- the complete frontier of a node
abbrev complete_at : ℕ → Frontier
complete_at p = node_frontier nested_loops p (front_of complete_once p)

follows : (e : ℕ) → e < 12 → Within (complete_at (receiver nested_loops e)) (phi one_rec first_round e (complete_at (sender nested_loops e)))
unfolding phi psi kind_of policy_of sender receiver bounds_of max_of parent_of declared_parent loops_of batches_of sends carried is_carried part_of
follows = by_twelve _
    (within_one 4294967295 _ _ (λ x hx h. grind (arith, nat_tests)))
    (within_two 4294967295 1 _ _ (λ x y hx hy h. grind (arith, nat_tests)))
    (within_two 4294967295 1 _ _ (λ x y hx hy h. grind (arith, nat_tests)))
    (within_two 4294967295 1 _ _ (λ x y hx hy h. grind (arith, nat_tests)))
    (within_three 4294967295 1 1 _ _ (λ x y z hx hy hz h. grind (arith, nat_tests)))
    (within_three 4294967295 1 1 _ _ (λ x y z hx hy hz h. grind (arith, nat_tests)))
    (within_three 4294967295 1 1 _ _ (λ x y z hx hy hz h. grind (arith, nat_tests)))
    (within_three 4294967295 1 1 _ _ (λ x y z hx hy hz h. grind (arith, nat_tests)))
    (within_three 4294967295 1 1 _ _ (λ x y z hx hy hz h. grind (arith, nat_tests)))
    (within_two 4294967295 1 _ _ (λ x y hx hy h. grind (arith, nat_tests)))
    (within_two 4294967295 1 _ _ (λ x y hx hy h. grind (arith, nat_tests)))
    (within_one 4294967295 _ _ (λ x hx h. grind (arith, nat_tests)))

-- nothing pending is inside an admissible family
kept_out : (other : ℕ → Frontier) → IsAdmissible one_rec first_round other → (e : ℕ) (o : Stamp)
    → some_at (same o) (pending_messages one_rec first_round e) ≡ true → other (receiver nested_loops e) o ≡ true → ⊥
kept_out other adm e o h k = two_ways _ h (adm.quiet (receiver nested_loops e) o k e refl)

-- at a node with all inside an admissible family lies within
most_before : (other : ℕ → Frontier) → IsAdmissible one_rec first_round other → (p : ℕ) → get_or complete_once p [] ≡ [] → Within (other p) (complete_at p)
most_before other adm p e t h = and_from _ _ ((adm.frontier p).inside_domain t h) (ap (λ os. inside os t) e)

-- what lies within at the sender of an edge projects to within at its receiver
projected : (other : ℕ → Frontier) → IsAdmissible one_rec first_round other → (e : ℕ) → Within (other (sender nested_loops e)) (complete_at (sender nested_loops e))
    → Within (other (receiver nested_loops e)) (phi one_rec first_round e (complete_at (sender nested_loops e)))
projected other adm e w t h = phi-monotone one_rec first_round e (other (sender nested_loops e)) (complete_at (sender nested_loops e)) w t (adm.follows e t h)

most_feedback : (other : ℕ → Frontier) → IsAdmissible one_rec first_round other → Within (other 6) (complete_at 6)
unfolding kind_of policy_of sender receiver bounds_of max_of parent_of declared_parent loops_of batches_of sends carried is_carried part_of
most_feedback other adm t h =
    and_from _ _ ((adm.frontier 6).inside_domain t h)
    (and_from _ _ (not_above (bounds_of nested_loops 6) (other 6) (adm.frontier 6) (0 ∷ 0 ∷ 0 ∷ []) refl (kept_out other adm 7 (0 ∷ 0 ∷ 0 ∷ []) refl) t h) refl)

most_leaving : (other : ℕ → Frontier) → IsAdmissible one_rec first_round other → Within (other 7) (complete_at 7)
unfolding kind_of policy_of sender receiver bounds_of max_of parent_of declared_parent loops_of batches_of sends carried is_carried part_of
most_leaving other adm t h =
    and_from _ _ ((adm.frontier 7).inside_domain t h)
    (and_from _ _ (not_above (bounds_of nested_loops 7) (other 7) (adm.frontier 7) (0 ∷ 0 ∷ 0 ∷ []) refl (kept_out other adm 8 (0 ∷ 0 ∷ 0 ∷ []) refl) t h) refl)

-- where rounds of the inner loop meet, both edges count
meeting : (t : Stamp) → phi one_rec first_round 4 (complete_at 3) t ≡ true → phi one_rec first_round 5 (complete_at 6) t ≡ true → complete_at 4 t ≡ true
unfolding phi psi kind_of policy_of sender receiver bounds_of max_of parent_of declared_parent loops_of batches_of sends carried is_carried part_of
meeting [] a b = cc
meeting (x ∷ []) a b = grind (arith, nat_tests)
meeting (x ∷ y ∷ []) a b = grind (arith, nat_tests)
meeting (x ∷ y ∷ z ∷ []) a b = grind (arith, nat_tests)
meeting (x ∷ y ∷ z ∷ w ∷ t) a b = grind (arith, nat_tests)

most : (other : ℕ → Frontier) → IsAdmissible one_rec first_round other → (p : ℕ) → Within (other p) (complete_at p)
unfolding phi psi kind_of policy_of sender receiver bounds_of max_of parent_of declared_parent loops_of batches_of sends carried is_carried part_of
most other adm =
    let leaving : Within (other 7) (complete_at 7) = most_leaving other adm in
    let left : Within (other 8) (complete_at 8) = next_within one_rec first_round other adm 9 (complete_at 7) (complete_at 8) (within_two 4294967295 1 _ _ (λ x y hx hy h. grind (arith, nat_tests))) leaving in
    let last : Within (other 9) (complete_at 9) = next_within one_rec first_round other adm 10 (complete_at 7) (complete_at 9) (within_two 4294967295 1 _ _ (λ x y hx hy h. grind (arith, nat_tests))) leaving in
    let mixing : Within (other 2) (complete_at 2) = next_within one_rec first_round other adm 2 (complete_at 8) (complete_at 2) (within_two 4294967295 1 _ _ (λ x y hx hy h. grind (arith, nat_tests))) left in
    let entering : Within (other 3) (complete_at 3) = next_within one_rec first_round other adm 3 (complete_at 2) (complete_at 3) (within_two 4294967295 1 _ _ (λ x y hx hy h. grind (arith, nat_tests))) mixing in
    let feedback : Within (other 6) (complete_at 6) = most_feedback other adm in
    let met : Within (other 4) (complete_at 4) =
    λ t h. meeting t (projected other adm 4 entering t h) (projected other adm 5 feedback t h) in
    let counting : Within (other 5) (complete_at 5) = next_within one_rec first_round other adm 6 (complete_at 4) (complete_at 5) (within_three 4294967295 1 1 _ _ (λ x y z hx hy hz h. grind (arith, nat_tests))) met in
    let out : Within (other 10) (complete_at 10) = next_within one_rec first_round other adm 11 (complete_at 9) (complete_at 10) (within_one 4294967295 _ _ (λ x hx h. grind (arith, nat_tests))) last in
    all_eleven _ (most_before other adm 0 refl) (most_before other adm 1 refl) mixing entering met counting feedback leaving left last out
    (λ p. most_before other adm (suc (suc (suc (suc (suc (suc (suc (suc (suc (suc (suc p))))))))))) refl)

first_round_is_complete : IsComplete one_rec first_round complete_at
unfolding kind_of policy_of sender receiver bounds_of max_of parent_of declared_parent loops_of batches_of sends carried is_carried part_of
first_round_is_complete = record { admissible = admissible_with one_rec first_round complete_once nested_is_well_formed refl follows; largest = most }

-- ---- the choice of the recovery is the largest

notices_kept : (d : ℕ) → d < 12
    → Within (notice_of one_rec.flow cut_inside (receiver nested_loops d)) (phi one_rec (events (with_serials (second_round ++ first_round))) d (notice_of one_rec.flow cut_inside (sender nested_loops d)))
unfolding phi psi kind_of policy_of sender receiver bounds_of max_of parent_of declared_parent loops_of batches_of sends carried is_carried part_of
notices_kept = by_twelve _
    (within_one 4294967295 _ _ (λ x hx h. grind (arith, nat_tests)))
    (within_two 4294967295 1 _ _ (λ x y hx hy h. grind (arith, nat_tests)))
    (within_two 4294967295 1 _ _ (λ x y hx hy h. grind (arith, nat_tests)))
    (within_two 4294967295 1 _ _ (λ x y hx hy h. grind (arith, nat_tests)))
    (within_three 4294967295 1 1 _ _ (λ x y z hx hy hz h. grind (arith, nat_tests)))
    (within_three 4294967295 1 1 _ _ (λ x y z hx hy hz h. grind (arith, nat_tests)))
    (within_three 4294967295 1 1 _ _ (λ x y z hx hy hz h. grind (arith, nat_tests)))
    (within_three 4294967295 1 1 _ _ (λ x y z hx hy hz h. grind (arith, nat_tests)))
    (within_three 4294967295 1 1 _ _ (λ x y z hx hy hz h. grind (arith, nat_tests)))
    (within_two 4294967295 1 _ _ (λ x y hx hy h. grind (arith, nat_tests)))
    (within_two 4294967295 1 _ _ (λ x y hx hy h. grind (arith, nat_tests)))
    (within_one 4294967295 _ _ (λ x hx h. grind (arith, nat_tests)))

consistent : IsConsistent one_rec second_count_failed (offers one_rec second_count_failed) cut_inside
unfolding kind_of policy_of sender receiver bounds_of max_of parent_of declared_parent loops_of batches_of sends carried is_carried part_of
consistent = record {
  one_cut_each = refl;
  one_notice_each = refl;
  offered = offered_by one_rec second_count_failed (is_failed second_count_failed) kept cut_inside refl;
  canonical = canonical_notices one_rec cut_inside refl;
  delivered = delivered_by one_rec second_count_failed cut_inside nested_is_well_formed refl;
  discarded = discarded_by one_rec second_count_failed cut_inside nested_is_well_formed refl;
  notified = notified_by one_rec second_count_failed cut_inside refl;
  own = own_by one_rec cut_inside refl;
  notices = notices_kept;
}

-- a cut that is offered at the failed node lies within what is settled of it
cut_within : (cut : Cut) → offers one_rec second_count_failed 5 cut → IsCutWithin one_rec.flow 5 cut (At counted_once)
unfolding kind_of policy_of sender receiver bounds_of max_of parent_of declared_parent loops_of batches_of sends carried is_carried part_of
cut_within = offered_within one_rec second_count_failed (is_failed second_count_failed) kept 5 counted_once refl refl

cuts_within : (other : Choice) → IsConsistent one_rec second_count_failed (offers one_rec second_count_failed) other
    → (p : ℕ) → p < 11 → IsCutWithin one_rec.flow p (cut_of other p) (cut_of cut_inside p)
cuts_within other ok = by_eleven _ tt tt tt tt tt (cut_within (cut_of other 5) (ok.offered 5 (lit< tt))) tt tt tt tt tt

-- the notices of a consistent choice at the failed node lie within what it keeps, and others within what that projects to
counting_notice : (other : Choice) → IsConsistent one_rec second_count_failed (offers one_rec second_count_failed) other
    → Within (notice_of one_rec.flow other 5) (notice_of one_rec.flow cut_inside 5)
counting_notice other ok t h = set_within one_rec 5 (cut_of other 5) counted_once (cut_within (cut_of other 5) (ok.offered 5 (lit< tt))) t (ok.own 5 (lit< tt) t h)

notices_within : (other : Choice) → IsConsistent one_rec second_count_failed (offers one_rec second_count_failed) other
    → (p : ℕ) → p < 11 → Within (notice_of one_rec.flow other p) (notice_of one_rec.flow cut_inside p)
unfolding phi psi kind_of policy_of sender receiver bounds_of max_of parent_of declared_parent loops_of batches_of sends carried is_carried part_of
notices_within other ok =
    let Lies : ℕ → Type 0 = λ p. Within (notice_of one_rec.flow other p) (notice_of one_rec.flow cut_inside p) in
    let counting : Lies 5 = counting_notice other ok in
    let feedback : Lies 6 = next_notice one_rec second_count_failed (offers one_rec second_count_failed) other ok 7 (lit< tt) (notice_of one_rec.flow cut_inside 5) (notice_of one_rec.flow cut_inside 6) (within_three 4294967295 1 1 _ _ (λ x y z hx hy hz h. grind (arith, nat_tests))) counting in
    let leaving : Lies 7 = next_notice one_rec second_count_failed (offers one_rec second_count_failed) other ok 8 (lit< tt) (notice_of one_rec.flow cut_inside 5) (notice_of one_rec.flow cut_inside 7) (within_three 4294967295 1 1 _ _ (λ x y z hx hy hz h. grind (arith, nat_tests))) counting in
    let left : Lies 8 = next_notice one_rec second_count_failed (offers one_rec second_count_failed) other ok 9 (lit< tt) (notice_of one_rec.flow cut_inside 7) (notice_of one_rec.flow cut_inside 8) (within_two 4294967295 1 _ _ (λ x y hx hy h. grind (arith, nat_tests))) leaving in
    let last : Lies 9 = next_notice one_rec second_count_failed (offers one_rec second_count_failed) other ok 10 (lit< tt) (notice_of one_rec.flow cut_inside 7) (notice_of one_rec.flow cut_inside 9) (within_two 4294967295 1 _ _ (λ x y hx hy h. grind (arith, nat_tests))) leaving in
    let mixing : Lies 2 = next_notice one_rec second_count_failed (offers one_rec second_count_failed) other ok 2 (lit< tt) (notice_of one_rec.flow cut_inside 8) (notice_of one_rec.flow cut_inside 2) (within_two 4294967295 1 _ _ (λ x y hx hy h. grind (arith, nat_tests))) left in
    let entering : Lies 3 = next_notice one_rec second_count_failed (offers one_rec second_count_failed) other ok 3 (lit< tt) (notice_of one_rec.flow cut_inside 2) (notice_of one_rec.flow cut_inside 3) (within_two 4294967295 1 _ _ (λ x y hx hy h. grind (arith, nat_tests))) mixing in
    let met : Lies 4 = next_notice one_rec second_count_failed (offers one_rec second_count_failed) other ok 4 (lit< tt) (notice_of one_rec.flow cut_inside 3) (notice_of one_rec.flow cut_inside 4) (within_three 4294967295 1 1 _ _ (λ x y z hx hy hz h. grind (arith, nat_tests))) entering in
    let out : Lies 10 = next_notice one_rec second_count_failed (offers one_rec second_count_failed) other ok 11 (lit< tt) (notice_of one_rec.flow cut_inside 9) (notice_of one_rec.flow cut_inside 10) (within_one 4294967295 _ _ (λ x hx h. grind (arith, nat_tests))) last in
    by_eleven _ (λ t k. and_from _ _ (and_parts (in_domain (bounds_of nested_loops 0) t) _ k).0 refl) (λ t k. and_from _ _ (and_parts (in_domain (bounds_of nested_loops 1) t) _ k).0 refl)
    mixing entering met counting feedback leaving left last out

inside_is_largest : IsLargest one_rec second_count_failed (offers one_rec second_count_failed) cut_inside
inside_is_largest = record { consistent = consistent; largest = λ other ok. record { cuts = cuts_within other ok; notices = notices_within other ok } }

recovers_inside : StepsTo one_rec second_count_failed step.Recover (recovered_state one_rec second_count_failed cut_inside complete_once) (did (cuts cut_inside))
unfolding kind_of bounds_of max_of parent_of declared_parent loops_of
recovers_inside =
    recovers_to one_rec second_count_failed cut_inside complete_once 5 (lit< tt) refl inside_is_largest refl (by_eleven _ refl refl refl refl refl refl refl refl refl refl refl) refl

-- ---- the run

-- what is taken before anything is settled
abbrev first_moves : List Move
first_moves =
    inject 0 0
    ∷ deliver 0 None (message (0 ∷ []) (pair 1 0) (0 ∷ []))
    ∷ deliver 1 None (message (0 ∷ 0 ∷ []) (pair 1 0) (0 ∷ []))
    ∷ deliver 3 None (message (0 ∷ 0 ∷ []) (pair 1 0) (0 ∷ 0 ∷ []))
    ∷ deliver 4 None (message (0 ∷ 0 ∷ 0 ∷ []) (pair 1 0) (0 ∷ 0 ∷ []))
    ∷ deliver 6 None (message (0 ∷ 0 ∷ 0 ∷ []) (pair 1 0) (0 ∷ 0 ∷ 0 ∷ []))
    ∷ []

-- and after that
abbrev second_moves : List Move
second_moves =
    deliver 7 None (message (0 ∷ 0 ∷ 0 ∷ []) (pair 1 1) (0 ∷ 0 ∷ 0 ∷ []))
    ∷ deliver 5 None (message (0 ∷ 0 ∷ 1 ∷ []) (pair 1 1) (0 ∷ 0 ∷ 0 ∷ []))
    ∷ deliver 6 None (message (0 ∷ 0 ∷ 1 ∷ []) (pair 1 1) (0 ∷ 0 ∷ 1 ∷ []))
    ∷ fail 5 []
    ∷ []

abbrev first_taken : Machine
first_taken = after_all one_rec (first_state one_rec) first_moves

abbrev first_settled : Machine
first_settled = record first_taken { settled = complete_once }

abbrev steps_to_failure : List Step
steps_to_failure = take 11 nested_steps

abbrev silent_steps : List Outcome
silent_steps = replicate 11 (did silent)

runs_to_failure : Run one_rec (first_state one_rec) steps_to_failure silent_steps second_count_failed
unfolding kind_of policy_of sender receiver bounds_of max_of parent_of declared_parent loops_of batches_of sends carried is_carried part_of
runs_to_failure =
    plays one_rec first_moves (first_state one_rec) (drop 6 steps_to_failure) (drop 6 silent_steps) second_count_failed refl (
      first_settled,
      settles_complete one_rec first_taken complete_once first_round_is_complete refl refl 0 (0 ∷ []) (lit< tt) refl refl,
      plays one_rec second_moves first_settled [] [] second_count_failed refl refl,
    )

pub recovers_inside_inner : RecoversInsideInnerLoop
unfolding kind_of policy_of sender receiver bounds_of max_of parent_of declared_parent loops_of batches_of sends carried is_carried part_of
recovers_inside_inner = record {
  runs =
      runs-go_on one_rec (first_state one_rec) second_count_failed (recovered_state one_rec second_count_failed cut_inside complete_once) steps_to_failure (step.Recover ∷ []) silent_steps
      (did (cuts cut_inside) ∷ []) runs_to_failure (recovered_state one_rec second_count_failed cut_inside complete_once, recovers_inside, refl);
  remains = refl;
  again = refl;
}
