-- The loop that counts up: what its rounds come to, its complete frontiers, its recovery and its run.
use Rattle.std.specs.List.{flat_map}
use Rattle.std.proofs.Common.{List, None, Some, [], ap, arith, drop, false, get_or, lit<, map, not, refl, replicate, suc, take, true, ℕ, ◌++◌, ◌+◌, ◌<◌, ◌∙◌, ◌∷◌, ◌≡◌}
use Rattle.std.proofs.lemmas.Bool.{and_from, and_parts}
use Rattle.std.proofs.lemmas.Bool.Decides.{nat_tests}
use Rattle.fw_lemmas.proofs.Bools.{two_ways}
use Rattle.fw_bag.specs.declared.rec.Rec.{Rec}
use Rattle.fw_time.specs.Stamp.{Stamp, in_domain, leq, same}
use Rattle.fw_frontier.specs.Front.{inside}
use Rattle.fw_frontier.specs.Frontier.{Frontier, Within}
use Rattle.fw_flow.specs.Dataflow.{batches_of, bounds_of, declared_parent, in_edges, kind_of, loops_of, max_of, parent_of, policy_of, receiver, sender}
use Rattle.fw_flow.specs.NodeFunction.{sends}
use Rattle.fw_flow.specs.Projection.{phi}
use Rattle.fw_flow.specs.WellFormed.{IsWellFormedSystem}
use Rattle.fw_flow.specs.WholeBags.{Timed, timed_where, timed_recs}
use Rattle.fw_flow.specs.declared.choice.Choice.{Choice}
use Rattle.fw_flow.specs.declared.choice.Cut.{Cut}
use Rattle.fw_flow.specs.declared.choice.Cut.TheVariants.{At}
use Rattle.fw_flow.specs.declared.step.Step.{Step}
use Rattle.fw_flow.specs.declared.step.Step.TheVariants.{Recover}
use Rattle.fw_flow.proofs.MessageLaws.{less-none}
use Rattle.fw_flow.specs.KeyParts.{is_carried, part_of}
use Rattle.fw_model.specs.Carried.{carried, carried_timed}
use Rattle.fw_model.specs.Choice.{IsConsistent, IsCutWithin, IsLargest, cut_of, kept, notice_of}
use Rattle.fw_model.specs.Denotation.{IsDenotation, bag_at, rounds}
use Rattle.fw_model.specs.History.{IsAdmissible, IsComplete, IsLegal, delivered_messages, pending_messages, some_at}
use Rattle.fw_model.specs.Machine.{Machine, events, first_state, is_failed}
use Rattle.fw_model.specs.Steps.{Outcome, Run, StepsTo, cuts, did, offers, silent, recovered_state}
use Rattle.fw_model.proofs.DomainLaws.{has_epochs}
use Rattle.fw_model.proofs.GoingOn.{runs-go_on}
use Rattle.fw_model.proofs.RecoveryLaws.{runs-legal}
use Rattle.fw_examples.specs.Flows.{loop_counts_up, pair, two_batches}
use Rattle.fw_examples.specs.Loop.{IsRestoredLoop, IsUnderWay, TwoBatchesCountUp, complete_at, complete_fronts, counted_rounds, counting_failed, message, outcomes_left, outcomes_shown, restored, round, steps_left, steps_taken, still_pending, under_way, with_serials, without_the_second}
use Rattle.fw_examples.specs.Witnesses.{LoopIsReached}
use Rattle.fw_examples.proofs.Choosing.{canonical_notices, delivered_by, discarded_by, next_notice, notified_by, offered_by, offered_within, own_by, recovers_to, set_within}
use Rattle.fw_examples.proofs.Fronts.{all_seven, by_seven, not_above, within_one, within_two}
use Rattle.fw_examples.proofs.Plays.{Move, acknowledge, after_all, deliver, fail, inject, plays}
use Rattle.fw_examples.proofs.Settling.{admissible_with, next_within, settles, settles_complete}
use Rattle.fw_examples.proofs.WellFormed.{is_well_formed, system_by}
use Rattle.fw_flow.specs.declared.step.Step.TheVariants as step

-- what comes of the first batch
first_values : List Rec
first_values = pair 1 1 ∷ pair 1 2 ∷ pair 1 3 ∷ pair 1 4 ∷ []

-- what comes of the second batch
second_values : List Rec
second_values = pair 2 1 ∷ pair 2 2 ∷ pair 2 3 ∷ pair 2 4 ∷ pair 3 1 ∷ pair 3 2 ∷ pair 3 3 ∷ pair 3 4 ∷ []

-- at no other stamp there is one of the recs of one stamp and of others
pub recs_where-none : (t at : Stamp) (rs : List Rec) (later : List Timed) → same t at ≡ false
    → timed_where (same t) later ≡ [] → timed_where (same t) (timed_recs at rs ++ later) ≡ []
recs_where-none t at [] later h e = e
recs_where-none t at (r ∷ rs) later h e = rw h (recs_where-none t at rs later h e)

pub two_batches_solves : IsDenotation two_batches (rounds two_batches 14)
unfolding kind_of sender in_edges batches_of max_of parent_of declared_parent loops_of carried_timed is_carried part_of receiver
two_batches_solves = all_seven _ refl refl refl refl refl refl refl (λ e. refl)

two_batches_at_output : rounds two_batches 14 6 ≡ timed_recs (0 ∷ []) first_values ++ (timed_recs (1 ∷ []) second_values ++ [])
unfolding kind_of sender in_edges batches_of max_of first_values second_values parent_of declared_parent loops_of carried_timed is_carried part_of receiver
two_batches_at_output = refl

pub two_batches_first : bag_at (rounds two_batches 14) 6 (0 ∷ []) ≡ (pair 1 1 ∷ pair 1 2 ∷ pair 1 3 ∷ pair 1 4 ∷ [])
unfolding first_values second_values
two_batches_first = ap (timed_where (same (0 ∷ []))) two_batches_at_output

pub two_batches_second : bag_at (rounds two_batches 14) 6 (1 ∷ [])
    ≡ (pair 2 1 ∷ pair 2 2 ∷ pair 2 3 ∷ pair 2 4 ∷ pair 3 1 ∷ pair 3 2 ∷ pair 3 3 ∷ pair 3 4 ∷ [])
unfolding first_values second_values
two_batches_second = ap (timed_where (same (1 ∷ []))) two_batches_at_output

pub two_batches_no_more : (t : Stamp) → same t (0 ∷ []) ≡ false → same t (1 ∷ []) ≡ false → bag_at (rounds two_batches 14) 6 t ≡ []
two_batches_no_more t h k =
    ap (timed_where (same t)) two_batches_at_output
    ∙ recs_where-none t (0 ∷ []) first_values (timed_recs (1 ∷ []) second_values ++ []) h (recs_where-none t (1 ∷ []) second_values [] k refl)

pub two_batches_count_up : TwoBatchesCountUp
two_batches_count_up = record { solves = two_batches_solves; first = two_batches_first; second = two_batches_second; no_more = two_batches_no_more }

-- ---- the complete frontiers of the loop with both batches under way

follows : (e : ℕ) → e < 7 → Within (complete_at (receiver loop_counts_up e)) (phi two_batches under_way e (complete_at (sender loop_counts_up e)))
unfolding phi kind_of sender receiver bounds_of max_of parent_of declared_parent loops_of
follows = by_seven _
    (within_one 4294967295 _ _ (λ x hx h. grind (arith, nat_tests)))
    (within_two 4294967295 3 _ _ (λ x y hx hy h. grind (arith, nat_tests)))
    (within_two 4294967295 3 _ _ (λ x y hx hy h. grind (arith, nat_tests)))
    (within_two 4294967295 3 _ _ (λ x y hx hy h. grind (arith, nat_tests)))
    (within_two 4294967295 3 _ _ (λ x y hx hy h. grind (arith, nat_tests)))
    (within_two 4294967295 3 _ _ (λ x y hx hy h. grind (arith, nat_tests)))
    (within_one 4294967295 _ _ (λ x hx h. grind (arith, nat_tests)))

-- nothing pending is inside an admissible family
kept_out : (other : ℕ → Frontier) → IsAdmissible two_batches under_way other → (e : ℕ) (o : Stamp)
    → some_at (same o) (pending_messages two_batches under_way e) ≡ true → other (receiver loop_counts_up e) o ≡ true → ⊥
kept_out other adm e o h k = two_ways _ h (adm.quiet (receiver loop_counts_up e) o k e refl)

most_before : (other : ℕ → Frontier) → IsAdmissible two_batches under_way other → (p : ℕ)
    → get_or complete_fronts p [] ≡ [] → Within (other p) (complete_at p)
most_before other adm p e t h = and_from _ _ ((adm.frontier p).inside_domain t h) (ap (λ os. inside os t) e)

most_feedback : (other : ℕ → Frontier) → IsAdmissible two_batches under_way other → Within (other 4) (complete_at 4)
unfolding kind_of sender receiver bounds_of max_of sends batches_of parent_of declared_parent loops_of carried is_carried part_of
most_feedback other adm t h =
    let above : (o : Stamp) → in_domain (bounds_of loop_counts_up 4) o ≡ true → (other 4 o ≡ true → ⊥) → not (leq o t) ≡ true =
    λ o d out. not_above (bounds_of loop_counts_up 4) (other 4) (adm.frontier 4) o d out t h in
    and_from _ _ ((adm.frontier 4).inside_domain t h)
    (and_from _ _ (above (0 ∷ 2 ∷ []) refl (kept_out other adm 3 (0 ∷ 2 ∷ []) refl))
    (and_from _ _ (above (1 ∷ 0 ∷ []) refl (kept_out other adm 3 (1 ∷ 0 ∷ []) refl)) refl))

most_mixing : (other : ℕ → Frontier) → IsAdmissible two_batches under_way other → Within (other 2) (complete_at 2)
unfolding phi kind_of sender receiver bounds_of max_of parent_of declared_parent loops_of
most_mixing other adm =
    next_within two_batches under_way other adm 4 (complete_at 4) (complete_at 2) (within_two 4294967295 3 _ _ (λ x y hx hy k. grind (arith, nat_tests))) (most_feedback other adm)

most_counting : (other : ℕ → Frontier) → IsAdmissible two_batches under_way other → Within (other 3) (complete_at 3)
unfolding phi kind_of sender receiver bounds_of max_of sends batches_of parent_of declared_parent loops_of carried is_carried part_of
most_counting other adm t h =
    let met : (in_domain (bounds_of loop_counts_up 2) t ≡ true) × (other 2 t ≡ true) =
    and_parts (in_domain (bounds_of loop_counts_up 2) t) (other 2 t) (adm.follows 2 t h) in
    let mixed : (in_domain (bounds_of loop_counts_up 2) t ≡ true) × (inside ((0 ∷ 3 ∷ []) ∷ (1 ∷ 1 ∷ []) ∷ []) t ≡ true) =
    and_parts (in_domain (bounds_of loop_counts_up 2) t) (inside ((0 ∷ 3 ∷ []) ∷ (1 ∷ 1 ∷ []) ∷ []) t) (most_mixing other adm t met.1) in
    and_from _ _ ((adm.frontier 3).inside_domain t h)
    (and_from _ _ (and_parts (not (leq (0 ∷ 3 ∷ []) t)) (inside ((1 ∷ 1 ∷ []) ∷ []) t) mixed.1).0
    (and_from _ _ (not_above (bounds_of loop_counts_up 3) (other 3) (adm.frontier 3) (1 ∷ 0 ∷ []) refl (kept_out other adm 2 (1 ∷ 0 ∷ []) refl) t h) refl))

most_leaving : (other : ℕ → Frontier) → IsAdmissible two_batches under_way other → Within (other 5) (complete_at 5)
unfolding kind_of sender receiver bounds_of max_of sends batches_of parent_of declared_parent loops_of carried is_carried part_of
most_leaving other adm t h =
    and_from _ _ ((adm.frontier 5).inside_domain t h)
    (and_from _ _ (not_above (bounds_of loop_counts_up 5) (other 5) (adm.frontier 5) (0 ∷ 0 ∷ []) refl (kept_out other adm 5 (0 ∷ 0 ∷ []) refl) t h) refl)

most_output : (other : ℕ → Frontier) → IsAdmissible two_batches under_way other → Within (other 6) (complete_at 6)
unfolding phi kind_of sender receiver bounds_of max_of parent_of declared_parent loops_of
most_output other adm = next_within two_batches under_way other adm 6 (complete_at 5) (complete_at 6) (within_one 4294967295 _ _ (λ x hx k. grind (arith, nat_tests))) (most_leaving other adm)

most : (other : ℕ → Frontier) → IsAdmissible two_batches under_way other → (p : ℕ) → Within (other p) (complete_at p)
most other adm = all_seven _
    (most_before other adm 0 refl)
    (most_before other adm 1 refl)
    (most_mixing other adm)
    (most_counting other adm)
    (most_feedback other adm)
    (most_leaving other adm)
    (most_output other adm)
    (λ p. most_before other adm (suc (suc (suc (suc (suc (suc (suc p))))))) refl)

pub under_way_is_complete : IsComplete two_batches under_way complete_at
unfolding kind_of sender receiver bounds_of batches_of max_of sends parent_of declared_parent loops_of carried is_carried part_of
under_way_is_complete = record { admissible = admissible_with two_batches under_way complete_fronts is_well_formed refl follows; largest = most }

-- ---- the choice of the recovery is the largest

notices_kept : (d : ℕ) → d < 7
    → Within (notice_of two_batches.flow restored (receiver loop_counts_up d)) (phi two_batches (events (with_serials under_way)) d (notice_of two_batches.flow restored (sender loop_counts_up d)))
unfolding phi kind_of policy_of sender receiver bounds_of max_of parent_of declared_parent loops_of
notices_kept = by_seven _
    (within_one 4294967295 _ _ (λ x hx k. grind (arith, nat_tests)))
    (within_two 4294967295 3 _ _ (λ x y hx hy k. grind (arith, nat_tests)))
    (within_two 4294967295 3 _ _ (λ x y hx hy k. grind (arith, nat_tests)))
    (within_two 4294967295 3 _ _ (λ x y hx hy k. grind (arith, nat_tests)))
    (within_two 4294967295 3 _ _ (λ x y hx hy k. grind (arith, nat_tests)))
    (within_two 4294967295 3 _ _ (λ x y hx hy k. grind (arith, nat_tests)))
    (within_one 4294967295 _ _ (λ x hx k. grind (arith, nat_tests)))

consistent : IsConsistent two_batches counting_failed (offers two_batches counting_failed) restored
unfolding kind_of policy_of sender receiver bounds_of max_of parent_of declared_parent loops_of batches_of sends carried is_carried part_of
consistent = record {
  one_cut_each = refl;
  one_notice_each = refl;
  offered = offered_by two_batches counting_failed (is_failed counting_failed) kept restored refl;
  canonical = canonical_notices two_batches restored refl;
  delivered = delivered_by two_batches counting_failed restored is_well_formed refl;
  discarded = discarded_by two_batches counting_failed restored is_well_formed refl;
  notified = notified_by two_batches counting_failed restored refl;
  own = own_by two_batches restored refl;
  notices = notices_kept;
}

-- a cut that is offered at the failed node lies within what is settled of it
cut_within : (cut : Cut) → offers two_batches counting_failed 3 cut → IsCutWithin two_batches.flow 3 cut (At counted_rounds)
unfolding kind_of policy_of sender receiver bounds_of max_of parent_of declared_parent loops_of
cut_within = offered_within two_batches counting_failed (is_failed counting_failed) kept 3 counted_rounds refl refl

cuts_within : (other : Choice) → IsConsistent two_batches counting_failed (offers two_batches counting_failed) other
    → (p : ℕ) → p < 7 → IsCutWithin two_batches.flow p (cut_of other p) (cut_of restored p)
cuts_within other ok = by_seven _ tt tt tt (cut_within (cut_of other 3) (ok.offered 3 (lit< tt))) tt tt tt

-- the notices of a consistent choice at the failed node lie within what it keeps, and others within what that projects to
counting_notice : (other : Choice) → IsConsistent two_batches counting_failed (offers two_batches counting_failed) other
    → Within (notice_of two_batches.flow other 3) (notice_of two_batches.flow restored 3)
counting_notice other ok t h = set_within two_batches 3 (cut_of other 3) counted_rounds (cut_within (cut_of other 3) (ok.offered 3 (lit< tt))) t (ok.own 3 (lit< tt) t h)

feedback_notice : (other : Choice) → IsConsistent two_batches counting_failed (offers two_batches counting_failed) other
    → Within (notice_of two_batches.flow other 4) (notice_of two_batches.flow restored 4)
unfolding phi kind_of policy_of sender receiver bounds_of max_of parent_of declared_parent loops_of
feedback_notice other ok t h = counting_notice other ok t (and_parts (in_domain (bounds_of loop_counts_up 4) t) (notice_of two_batches.flow other 3 t) (ok.notices 3 (lit< tt) t h)).1

leaving_notice : (other : Choice) → IsConsistent two_batches counting_failed (offers two_batches counting_failed) other
    → Within (notice_of two_batches.flow other 5) (notice_of two_batches.flow restored 5)
unfolding phi kind_of policy_of sender receiver bounds_of max_of parent_of declared_parent loops_of
leaving_notice other ok t h = counting_notice other ok t (and_parts (in_domain (bounds_of loop_counts_up 5) t) (notice_of two_batches.flow other 3 t) (ok.notices 5 (lit< tt) t h)).1

mixing_notice : (other : Choice) → IsConsistent two_batches counting_failed (offers two_batches counting_failed) other
    → Within (notice_of two_batches.flow other 2) (notice_of two_batches.flow restored 2)
unfolding phi kind_of policy_of sender receiver bounds_of max_of parent_of declared_parent loops_of
mixing_notice other ok =
    next_notice two_batches counting_failed (offers two_batches counting_failed) other ok 4 (lit< tt) (notice_of two_batches.flow restored 4) (notice_of two_batches.flow restored 2)
    (within_two 4294967295 3 _ _ (λ x y hx hy k. grind (arith, nat_tests))) (feedback_notice other ok)

output_notice : (other : Choice) → IsConsistent two_batches counting_failed (offers two_batches counting_failed) other
    → Within (notice_of two_batches.flow other 6) (notice_of two_batches.flow restored 6)
unfolding phi kind_of policy_of sender receiver bounds_of max_of parent_of declared_parent loops_of
output_notice other ok =
    next_notice two_batches counting_failed (offers two_batches counting_failed) other ok 6 (lit< tt) (notice_of two_batches.flow restored 5) (notice_of two_batches.flow restored 6)
    (within_one 4294967295 _ _ (λ x hx k. grind (arith, nat_tests))) (leaving_notice other ok)

notices_within : (other : Choice) → IsConsistent two_batches counting_failed (offers two_batches counting_failed) other
    → (p : ℕ) → p < 7 → Within (notice_of two_batches.flow other p) (notice_of two_batches.flow restored p)
notices_within other ok = by_seven _
    (λ t k. and_from _ _ (and_parts (in_domain (bounds_of loop_counts_up 0) t) _ k).0 refl)
    (λ t k. and_from _ _ (and_parts (in_domain (bounds_of loop_counts_up 1) t) _ k).0 refl)
    (mixing_notice other ok)
    (counting_notice other ok)
    (feedback_notice other ok)
    (leaving_notice other ok)
    (output_notice other ok)

pub restored_is_largest : IsLargest two_batches counting_failed (offers two_batches counting_failed) restored
restored_is_largest = record { consistent = consistent; largest = λ other ok. record { cuts = cuts_within other ok; notices = notices_within other ok } }

pub recovers_loop : StepsTo two_batches counting_failed Recover (recovered_state two_batches counting_failed restored complete_fronts) (did (cuts restored))
unfolding kind_of bounds_of max_of parent_of declared_parent loops_of
recovers_loop =
    recovers_to two_batches counting_failed restored complete_fronts 3 (lit< tt) refl restored_is_largest refl (by_seven _ refl refl refl refl refl refl refl) refl

-- ---- the run of the loop, to the failure, through the recovery and to both acknowledgements

-- what is taken before anything is settled
abbrev both_under_way : List Move
both_under_way =
    inject 0 0
    ∷ deliver 0 None (message (0 ∷ []) (pair 1 0) (0 ∷ []))
    ∷ deliver 1 None (message (round 0 0) (pair 1 0) (0 ∷ []))
    ∷ inject 0 1
    ∷ deliver 0 None (message (1 ∷ []) (pair 2 0) (1 ∷ []))
    ∷ deliver 0 None (message (1 ∷ []) (pair 3 0) (1 ∷ []))
    ∷ deliver 1 (Some (round 1 0)) (message (round 1 0) (pair 2 0) (1 ∷ []))
    ∷ deliver 1 (Some (round 1 0)) (message (round 1 0) (pair 3 0) (1 ∷ []))
    ∷ deliver 2 (Some (round 1 0)) (message (round 1 0) (pair 2 0) (round 1 0))
    ∷ deliver 2 (Some (round 0 0)) (message (round 0 0) (pair 1 0) (round 0 0))
    ∷ deliver 3 (Some (round 0 0)) (message (round 0 0) (pair 1 1) (round 0 0))
    ∷ deliver 4 None (message (round 0 1) (pair 1 1) (round 0 0))
    ∷ deliver 2 (Some (round 0 1)) (message (round 0 1) (pair 1 1) (round 0 1))
    ∷ deliver 3 (Some (round 0 1)) (message (round 0 1) (pair 1 2) (round 0 1))
    ∷ deliver 4 None (message (round 0 2) (pair 1 2) (round 0 1))
    ∷ deliver 2 (Some (round 0 2)) (message (round 0 2) (pair 1 2) (round 0 2))
    ∷ []

-- the state after these events, before anything is settled
abbrev all_taken : Machine
all_taken = after_all two_batches (first_state two_batches) both_under_way

-- and once all that is complete is settled
abbrev all_settled : Machine
all_settled = record all_taken { settled = complete_fronts }

-- the steps to the failure, of which none shows something
abbrev pub loop_steps : List Step
loop_steps = take 18 steps_taken

abbrev pub loop_outcomes : List Outcome
loop_outcomes = replicate 18 (did silent)

pub runs_to_failure : Run two_batches (first_state two_batches) loop_steps loop_outcomes counting_failed
unfolding kind_of policy_of sender receiver bounds_of batches_of max_of sends parent_of declared_parent loops_of carried is_carried part_of
runs_to_failure =
    plays two_batches both_under_way (first_state two_batches) (drop 16 loop_steps) (drop 16 loop_outcomes) counting_failed refl (
      all_settled,
      settles_complete two_batches all_taken complete_fronts under_way_is_complete refl refl 0 (0 ∷ []) (lit< tt) refl refl,
      plays two_batches (fail 3 [] ∷ []) all_settled [] [] counting_failed refl refl,
    )

-- ---- after the recovery

abbrev come_back : Machine
come_back = recovered_state two_batches counting_failed restored complete_fronts

-- a rec with this value goes round to the next counter and is counted up
abbrev goes_round : ℕ → ℕ → ℕ → ℕ → List Move
goes_round x c key value =
    deliver 4 None (message (round x (c + 1)) (pair key value) (round x c))
    ∷ deliver 2 None (message (round x (c + 1)) (pair key value) (round x (c + 1)))
    ∷ deliver 3 None (message (round x (c + 1)) (pair key (value + 1)) (round x (c + 1)))
    ∷ []

-- what was counted up at a counter leaves the loop, and comes to the output
abbrev leaves : ℕ → ℕ → ℕ → Move
leaves x key c = deliver 5 None (message (round x c) (pair key (c + 1)) (round x c))

abbrev comes_out : ℕ → ℕ → ℕ → Move
comes_out x key c = deliver 6 None (message (x ∷ []) (pair key (c + 1)) (round x c))

-- what is taken then
abbrev what_is_left : List Move
what_is_left =
    deliver 2 None (message (round 1 0) (pair 2 0) (round 1 0))
    ∷ deliver 2 None (message (round 1 0) (pair 3 0) (round 1 0))
    ∷ deliver 3 None (message (round 0 2) (pair 1 3) (round 0 2))
    ∷ deliver 3 None (message (round 1 0) (pair 2 1) (round 1 0))
    ∷ deliver 3 None (message (round 1 0) (pair 3 1) (round 1 0))
    ∷ goes_round 0 2 1 3
    ++ goes_round 1 0 2 1 ++ goes_round 1 0 3 1 ++ goes_round 1 1 2 2 ++ goes_round 1 1 3 2 ++ goes_round 1 2 2 3 ++ goes_round 1 2 3 3
    ++ map (leaves 0 1) (0 ∷ 1 ∷ 2 ∷ 3 ∷ []) ++ flat_map (λ c. leaves 1 2 c ∷ leaves 1 3 c ∷ []) (0 ∷ 1 ∷ 2 ∷ 3 ∷ [])
    ++ map (comes_out 0 1) (0 ∷ 1 ∷ 2 ∷ 3 ∷ []) ++ map (comes_out 1 2) (0 ∷ 1 ∷ 2 ∷ 3 ∷ []) ++ map (comes_out 1 3) (0 ∷ 1 ∷ 2 ∷ 3 ∷ [])

abbrev all_delivered : Machine
all_delivered = after_all two_batches come_back what_is_left

abbrev all_complete : Machine
all_complete = record all_delivered { settled = replicate 7 [] }

abbrev acknowledging : List Move
acknowledging = acknowledge 6 0 ∷ acknowledge 6 1 ∷ []

abbrev both_acknowledged : Machine
both_acknowledged = after_all two_batches all_complete acknowledging

runs_on : Run two_batches come_back steps_left outcomes_left both_acknowledged
unfolding kind_of policy_of sender receiver bounds_of batches_of max_of sends parent_of declared_parent loops_of carried is_carried part_of
runs_on =
    plays two_batches what_is_left come_back (drop 50 steps_left) (drop 50 outcomes_left) both_acknowledged refl (
      all_complete,
      settles two_batches all_delivered (replicate 7 []) is_well_formed refl refl refl 6 (0 ∷ []) (lit< tt) refl refl,
      plays two_batches acknowledging all_complete [] [] both_acknowledged refl refl,
    )

-- the run to the recovery, and all of it
pub runs_to_recovery : Run two_batches (first_state two_batches) steps_taken outcomes_shown come_back
runs_to_recovery =
    runs-go_on two_batches (first_state two_batches) counting_failed come_back loop_steps (step.Recover ∷ []) loop_outcomes (did (cuts restored) ∷ []) runs_to_failure
    (come_back, recovers_loop, refl)

pub runs_to_the_end : Run two_batches (first_state two_batches) (steps_taken ++ steps_left) (outcomes_shown ++ outcomes_left) both_acknowledged
runs_to_the_end =
    runs-go_on two_batches (first_state two_batches) come_back both_acknowledged steps_taken steps_left outcomes_shown outcomes_left runs_to_recovery runs_on

-- ---- the loop that counts up as a witness for the laws of runs

loop_system : IsWellFormedSystem two_batches
unfolding kind_of batches_of
loop_system = system_by two_batches is_well_formed refl refl

pub loop_is_reached : LoopIsReached
loop_is_reached = record {
  well_formed = loop_system;
  epochs = has_epochs two_batches loop_system;
  denoted = two_batches_solves;
  runs = (_, runs_to_the_end);
  acknowledged = refl;
}

-- ---- which events are legal, and what they leave pending

pub under_way_is_legal : IsLegal two_batches under_way
under_way_is_legal = runs-legal two_batches loop_steps loop_outcomes counting_failed is_well_formed (has_epochs two_batches loop_system) runs_to_failure

pub under_way_leaves : (e : ℕ) → pending_messages two_batches under_way e ≡ get_or still_pending e []
unfolding kind_of sender receiver bounds_of batches_of max_of sends parent_of declared_parent loops_of carried is_carried part_of
under_way_leaves = all_seven _ refl refl refl refl refl refl refl (λ e. less-none (delivered_messages under_way (suc (suc (suc (suc (suc (suc (suc e)))))))))

pub loop_under_way : IsUnderWay
loop_under_way = record { legal = under_way_is_legal; waiting = under_way_leaves }

pub loop_is_restored : IsRestoredLoop
unfolding kind_of sender receiver bounds_of batches_of max_of sends parent_of declared_parent loops_of carried is_carried part_of
loop_is_restored = record {
  remains = refl;
  legal = runs-legal two_batches steps_taken outcomes_shown (recovered_state two_batches counting_failed restored complete_fronts) is_well_formed (has_epochs two_batches loop_system) runs_to_recovery;
  waiting = all_seven _ refl refl refl refl refl refl refl (λ e. less-none (delivered_messages without_the_second (suc (suc (suc (suc (suc (suc (suc e)))))))));
}
