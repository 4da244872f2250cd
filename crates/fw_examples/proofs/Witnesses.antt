-- Witnesses for the laws: of a sequence whose numbers are regrouped, of the running total and of the loop.
use Rattle.std.specs.List.{list_any}
use Rattle.std.proofs.Common.{Bool, List, None, Some, [], ap, arith, drop, false, inl, inr, lit<, lit≤, refl, replicate, suc, sym, true, zero, ℕ, ⊎_elim, ◌++◌, ◌<◌, ◌∙◌, ◌∷◌, ◌≡◌}
use Rattle.std.proofs.lemmas.Bool.{and_from, and_parts, false≢true, or_cases, or_left, or_right}
use Rattle.std.proofs.lemmas.Bool.Decides.{nat_tests}
use Rattle.fw_lemmas.proofs.Each.{each-one}
use Rattle.fw_time.specs.Stamp.{Stamp, leq}
use Rattle.fw_frontier.specs.Front.{frontier_of}
use Rattle.fw_frontier.specs.Frontier.{IsFrontier, join}
use Rattle.fw_frontier.proofs.NamesLaws.{frontier-closed}
use Rattle.fw_flow.specs.Dataflow.{HasEpochs, batches_of, bounds_of, declared_parent, in_edges, kind_of, loops_of, max_of, node_frontier, out_edges, parent_of, policy_of, receiver, sender}
use Rattle.fw_flow.specs.NodeFunction.{sends}
use Rattle.fw_flow.specs.Projection.{phi, psi}
use Rattle.fw_flow.specs.WellFormed.{IsWellFormed, IsWellFormedSystem}
use Rattle.fw_flow.specs.declared.choice.Choice.{Choice}
use Rattle.fw_flow.specs.declared.event.Event.TheVariants.{Notify as Notified}
use Rattle.fw_flow.specs.declared.step.Step.{Step}
use Rattle.fw_flow.specs.declared.step.Step.TheVariants.{Recover}
use Rattle.fw_flow.specs.KeyParts.{is_carried, part_of}
use Rattle.fw_model.specs.Carried.{carried, carried_timed}
use Rattle.fw_model.specs.Auto.{AreIdle, IsFirstEnabled, IsIdle, auto_steps}
use Rattle.fw_model.specs.Choice.{ever, kept, until}
use Rattle.fw_model.specs.Choosing.{CanChoose}
use Rattle.fw_model.specs.Denotation.{IsDenotation}
use Rattle.fw_model.specs.Filtering.{ComeFromKept, MeetsInclusions, messages_from}
use Rattle.fw_model.specs.History.{IsLegal, delivered_messages, sent_messages}
use Rattle.fw_model.specs.Machine.{Machine, Write, first_state, front_of, is_failed}
use Rattle.fw_model.specs.Steps.{Outcome, Run, cuts, did, is_in_flight, silent, with_event}
use Rattle.fw_model.specs.Thinned.{IsBelowKept}
use Rattle.fw_model.proofs.ChoosingLaws.{checkpoints-chains}
use Rattle.fw_model.proofs.DomainLaws.{has_epochs}
use Rattle.fw_model.proofs.FilteredLaws.{choice-consistent, consistent-meets, set-frontier}
use Rattle.fw_model.proofs.RecoveryLaws.{denoted-full, runs-legal, settled-stays_denoted}
use Rattle.fw_examples.specs.Flows.{loop_counts_up, numbered_both, numbers, regroup_by_three, two_batches, value_at}
use Rattle.fw_examples.specs.Loop.{counted_rounds, counting_failed, restored}
use Rattle.fw_examples.specs.RunningTotal.{alike, valued_at_epoch, come_back, next_epochs, outcomes_to_failure, output_failed, total_node, steps_to_failure, total_flow, totals, totals_denoted, two_epochs, two_epochs_kept}
use Rattle.fw_examples.specs.Witnesses.{AnEpochIsClosed, ChoicesUnite, CutsUnite, EachStepHasItsChoice, EpochsAreThinned, FailureIsReached, JoinIsAFrontier, LessIsConsistent, LoopIsFiltered, LowWatermarkRises, MoreIsComplete, NotifiedAndGoesOn, NoStepIsTaken, NumbersAreDelivered, OneIsOnItsWay, RecoveryIsReached, SequenceIsFiltered, SomeIsSettled, SomethingIsChosen, TotalsAreFiltered, TotalsAreWellFormed, TwoEpochsAreComplete, TwoEpochsAreTheSame, TwoRunsMeet, TwoStepsAreTaken, all_failed, all_written, both_rounds, first_rounds, four_epochs, kept_epoch, last_taken}
use Rattle.fw_examples.proofs.Choosing.{lies}
use Rattle.fw_examples.proofs.Fronts.{by_four, by_three, canonical_by, within_two}
use Rattle.fw_examples.proofs.Loop.{loop_is_reached, loop_is_restored, restored_is_largest, under_way_is_complete, under_way_is_legal, under_way_leaves}
use Rattle.fw_examples.proofs.Plays.{Move, after_all, deliver, fail, inject, persist, plays, steps_of, takes}
use Rattle.fw_examples.proofs.Settling.{admissible_by, closed_by, complete_by, notifies}
use Rattle.fw_examples.proofs.TotalRuns.{after_failure, collects, epoch_consistent, failed_run, kept_consistent, kept_largest, noting_less, noting_none, recovers, run_through_recovery, run_without_failure, runs_to_two, sum_acknowledged, ten_acknowledged, totals_formed, two_collected, two_offered, union_of_both}
use Rattle.fw_examples.proofs.WellFormed.{is_well_formed, rising_is_well_formed, system_by}
use Rattle.fw_flow.specs.declared.step.Step.TheVariants as step

pub regroup_is_well_formed : IsWellFormed regroup_by_three
unfolding kind_of policy_of sender receiver in_edges out_edges
regroup_is_well_formed =
    rising_is_well_formed regroup_by_three refl (by_four _ tt tt tt tt) (by_four _ refl refl refl refl) (by_four _ tt tt tt refl)
    (by_three _ refl refl refl) (by_four _ refl tt refl refl) (by_four _ tt tt (lit≤ tt, lit< tt) tt) (0, lit< tt, refl) (3, lit< tt, refl)

numbers_system : IsWellFormedSystem numbers
unfolding kind_of batches_of
numbers_system = system_by numbers regroup_is_well_formed refl refl

pub numbers_have_epochs : HasEpochs numbers
numbers_have_epochs = has_epochs numbers numbers_system

-- the recs of epoch 0 come to the sequence
abbrev first_moves : List Move
first_moves = inject 0 0 ∷ deliver 0 None (value_at 0 1 0) ∷ deliver 0 None (value_at 0 2 0) ∷ []

-- their numbers to the regrouping, and the rec of epoch 1 to the sequence
abbrev second_moves : List Move
second_moves = deliver 1 None (value_at 0 1 0) ∷ deliver 1 None (value_at 1 2 0) ∷ inject 0 1 ∷ deliver 0 None (value_at 1 3 1) ∷ []

abbrev first_came : Machine
first_came = after_all numbers (first_state numbers) first_moves

abbrev first_numbered : Machine
first_numbered = with_event numbers first_came (Notified 1 (0 ∷ []))

abbrev second_came : Machine
second_came = after_all numbers first_numbered second_moves

abbrev both_numbered : Machine
both_numbered = with_event numbers second_came (Notified 1 (1 ∷ []))

abbrev steps_taken : List Step
steps_taken = steps_of first_moves (step.Notify 1 (Some (0 ∷ [])) ∷ steps_of second_moves (step.Notify 1 (Some (1 ∷ [])) ∷ []))

abbrev outcomes_shown : List Outcome
outcomes_shown = replicate 9 (did silent)

numbers_run : Run numbers (first_state numbers) steps_taken outcomes_shown both_numbered
unfolding kind_of receiver sender sends batches_of bounds_of policy_of phi carried is_carried part_of
numbers_run =
    plays numbers first_moves (first_state numbers) (drop 3 steps_taken) (drop 3 outcomes_shown) both_numbered refl (
      first_numbered,
      notifies numbers first_came 1 (0 ∷ []) (until 1 ∷ until 0 ∷ until 0 ∷ until 0 ∷ []) regroup_is_well_formed (lit< tt) refl refl refl,
      plays numbers second_moves first_numbered (drop 8 steps_taken) (drop 8 outcomes_shown) both_numbered refl (
        both_numbered,
        notifies numbers second_came 1 (1 ∷ []) (until 2 ∷ until 0 ∷ until 0 ∷ until 0 ∷ []) regroup_is_well_formed (lit< tt) refl refl refl,
        refl,
      ),
    )

pub numbers_are_legal : IsLegal numbers numbered_both
numbers_are_legal = runs-legal numbers steps_taken outcomes_shown both_numbered regroup_is_well_formed numbers_have_epochs numbers_run

-- ---- witnesses for the laws of runs, of deliveries, of choices and of filtering

totals_system : IsWellFormedSystem totals
unfolding kind_of batches_of
totals_system = system_by totals totals_formed refl refl

rounds_solve : IsDenotation totals totals_denoted
unfolding kind_of sender in_edges batches_of carried_timed is_carried part_of receiver
rounds_solve zero = refl
rounds_solve (suc zero) = refl
rounds_solve (suc (suc e)) = refl

pub totals_are_well_formed : TotalsAreWellFormed
totals_are_well_formed = record { well_formed = totals_system; epochs = has_epochs totals totals_system; denoted = rounds_solve }

pub failure_is_reached : FailureIsReached
unfolding kind_of sender receiver sends batches_of bounds_of in_edges carried is_carried carried_timed part_of
failure_is_reached = record {
  no_recovery = (refl, (refl, (refl, (refl, (refl, (refl, (refl, (refl, (refl, (refl, (refl, (refl, (refl, (refl, (refl, (refl, (refl, (refl, (refl, (refl, (refl, tt)))))))))))))))))))));
  reached = failed_run;
  failed = refl;
  written = refl;
  pending_for_total = refl;
  pending_for_output = refl;
  acknowledged = refl;
  bag = refl;
}

-- the histories of the runs are legal
pub total_is_legal : IsLegal totals (next_epochs ++ two_epochs)
total_is_legal = runs-legal totals steps_to_failure outcomes_to_failure output_failed totals_formed (has_epochs totals totals_system) failed_run

pub two_are_legal : IsLegal totals two_epochs
two_are_legal =
    runs-legal totals (steps_to_failure ++ Recover ∷ []) (outcomes_to_failure ++ did (cuts two_epochs_kept) ∷ []) come_back totals_formed (has_epochs totals totals_system)
    (after_failure [] [] come_back refl)

pub recovery_is_reached : RecoveryIsReached
unfolding kind_of sender receiver sends batches_of bounds_of in_edges carried is_carried carried_timed part_of
recovery_is_reached = record {
  step = recovers;
  before = refl;
  after = refl;
  legal = total_is_legal;
  reached = after_failure [] [] come_back refl;
  goes_on = (sum_acknowledged come_back, run_through_recovery);
  acknowledged = refl;
  bag = refl;
}

pub two_runs_meet : TwoRunsMeet
two_runs_meet = record {
  through = (sum_acknowledged come_back, run_through_recovery);
  without = (sum_acknowledged two_collected, run_without_failure);
  shown_through = inr (inr (inr (inr (inr (inr (inr (inr (inr (inr (inr (inr (inr (inr (inr (inr (inr (inr (inr (inr (inr (inr (inr (inr (inr (inr (inr (inl refl)))))))))))))))))))))))))));
  shown_without = inr (inr (inr (inr (inr (inr (inr (inr (inr (inr (inr (inr (inr (inr (inr (inr (inr (inr (inr (inl refl)))))))))))))))))));
}

pub some_is_settled : SomeIsSettled
unfolding kind_of receiver sender sends batches_of bounds_of carried is_carried part_of
some_is_settled = record {
  denoted = settled-stays_denoted totals totals_denoted totals_system rounds_solve steps_to_failure outcomes_to_failure output_failed failed_run;
  settled = refl;
  delivered = refl;
  candidate = two_offered (is_failed output_failed) 1 (lit< tt);
  enabled = record { is_pending = refl; numbered = λ n. absurd (false≢true n) };
}

pub something_is_chosen : SomethingIsChosen
unfolding bounds_of kind_of
something_is_chosen = record {
  largest = kept_largest;
  low = refl;
  chains = checkpoints-chains totals totals_system steps_to_failure outcomes_to_failure output_failed failed_run (is_failed output_failed) ever;
  offered_ever = (epoch_consistent (is_failed output_failed)).offered 1 (lit< tt);
  not_kept = λ c. false≢true (c.2 (1 ∷ []) refl);
}

can_choose : (lost : ℕ → Bool) → CanChoose totals output_failed lost
can_choose lost = record {
  choice = two_epochs_kept;
  consistent = kept_consistent lost;
  chains = checkpoints-chains totals totals_system steps_to_failure outcomes_to_failure output_failed failed_run lost kept;
}

pub each_step_has_its_choice : EachStepHasItsChoice
each_step_has_its_choice = record { recovery = can_choose (is_failed output_failed); collection = can_choose (λ p. true) }

pub low_watermark_rises : LowWatermarkRises
unfolding bounds_of kind_of
low_watermark_rises = (ten_acknowledged, two_collected, runs_to_two, collects, refl, refl)

pub more_is_complete : MoreIsComplete
unfolding kind_of receiver sender sends batches_of bounds_of carried is_carried part_of
more_is_complete = record {
  complete = complete_by totals (next_epochs ++ two_epochs) (until 4 ∷ until 3 ∷ until 2 ∷ []) totals_formed refl refl;
  more = record { node = 0; at = 3 ∷ []; declared = lit< tt; live = refl; complete = refl; unsettled = refl };
}

-- ---- witnesses for the laws of deliveries

pub an_epoch_is_closed : AnEpochIsClosed
unfolding kind_of receiver sender sends batches_of bounds_of in_edges phi carried is_carried carried_timed part_of
an_epoch_is_closed = record {
  closed = closed_by totals two_epochs 1 (1 ∷ []) (alike 2) totals_formed (lit< tt) refl;
  goes_on = total_is_legal;
  delivered_there = refl;
  bag = refl;
  delivered_later = refl;
}

pub notified_and_goes_on : NotifiedAndGoesOn
notified_and_goes_on = total_is_legal

pub two_epochs_are_complete : TwoEpochsAreComplete
unfolding kind_of receiver sender sends batches_of bounds_of in_edges phi carried is_carried carried_timed part_of
two_epochs_are_complete = record {
  legal = two_are_legal;
  admissible = admissible_by totals two_epochs (alike 2) totals_formed refl;
  inside = refl;
  inside_phi = refl;
  was_sent = refl;
  was_delivered = refl;
  bag = refl;
  enabled = record { input = refl; next = refl; there = lit< tt };
}

pub one_is_on_its_way : OneIsOnItsWay
unfolding kind_of receiver sender sends batches_of bounds_of in_edges carried is_carried carried_timed part_of
one_is_on_its_way = record { legal = total_is_legal; denoted = refl; sent_once = refl; not_delivered = refl }

-- ---- witnesses for the laws of choices

pub choices_unite : ChoicesUnite
unfolding kind_of policy_of sender receiver sends bounds_of batches_of carried is_carried part_of
choices_unite = record {
  one = noting_none (is_failed output_failed);
  other = epoch_consistent (is_failed output_failed);
  one_not_within = λ w. false≢true (w.cuts 0 (lit< tt) (1 ∷ []) refl);
  other_not_within = λ w. false≢true (w.notices 2 (lit< tt) (0 ∷ []) refl);
  union = union_of_both;
  offered = (noting_none (is_failed output_failed)).offered;
  checkpoints = refl;
  delivered = refl;
  notified = refl;
  discarded = refl;
}

pub less_is_consistent : LessIsConsistent
less_is_consistent = record { consistent = noting_less (is_failed output_failed); other = λ e. let last : until 0 ≡ until 2 = ap (λ (choice : Choice). front_of choice.notices 2) e in cc }

same_stamps : (m n : ℕ) (t : Stamp)
    → frontier_of (record { greatest = m ∷ n ∷ []; sides = false }) both_rounds t
    ≡ join (frontier_of (record { greatest = m ∷ n ∷ []; sides = false }) counted_rounds) (frontier_of (record { greatest = m ∷ n ∷ []; sides = false }) first_rounds) t
same_stamps m n [] = refl
same_stamps m n (x ∷ []) = grind (arith, nat_tests)
same_stamps m n (x ∷ y ∷ []) = grind (arith, nat_tests)
same_stamps m n (x ∷ y ∷ z ∷ t) = grind (arith, nat_tests)

pub cuts_unite : CutsUnite
unfolding kind_of policy_of sender receiver bounds_of max_of psi parent_of declared_parent loops_of
cuts_unite = record {
  union = record { canonical = canonical_by _ both_rounds refl; same = same_stamps 4294967295 3 };
  one_not_within = λ w. false≢true (w (0 ∷ 2 ∷ []) refl);
  other_not_within = λ w. false≢true (w (1 ∷ 0 ∷ []) refl);
  delivered_of_one = refl;
  delivered_of_other = refl;
  discarded_of_one = refl;
  discarded_of_other = refl;
}

pub join_is_a_frontier : JoinIsAFrontier
join_is_a_frontier = record {
  inside_domain = λ t i. ⊎_elim (one.inside_domain t) (other.inside_domain t) (or_cases _ _ i);
  closed = λ s t d l i. ⊎_elim (λ a. or_left _ _ (one.closed s t d l a)) (λ b. or_right _ _ (other.closed s t d l b)) (or_cases _ _ i);
}
  where
    one : IsFrontier (bounds_of loop_counts_up 3) (frontier_of (bounds_of loop_counts_up 3) counted_rounds)
    one = frontier-closed _ counted_rounds

    other : IsFrontier (bounds_of loop_counts_up 3) (frontier_of (bounds_of loop_counts_up 3) first_rounds)
    other = frontier-closed _ first_rounds

-- ---- witnesses for the laws of filtering: the running total

totals_meet : MeetsInclusions totals output_failed two_epochs_kept
totals_meet = consistent-meets totals output_failed (is_failed output_failed) kept two_epochs_kept (kept_consistent (is_failed output_failed))

pub totals_are_filtered : TotalsAreFiltered
unfolding kind_of policy_of receiver sender sends batches_of bounds_of carried is_carried part_of
totals_are_filtered = record {
  legal = total_is_legal;
  consistently = choice-consistent totals output_failed two_epochs_kept totals_formed totals_meet;
  inclusions = totals_meet;
  remains = refl;
  full = denoted-full totals totals_denoted output_failed totals_are_well_formed.well_formed totals_are_well_formed.denoted total_is_legal some_is_settled.denoted;
  cut = lies (bounds_of totals.flow total_node) (until 2) (until 3) refl;
  discarded = (kept_consistent (is_failed output_failed)).discarded 0 (lit< tt);
  no_log = refl;
  was_pending = refl;
}

-- ---- the loop

loop_meets : MeetsInclusions two_batches counting_failed restored
loop_meets = consistent-meets two_batches counting_failed (is_failed counting_failed) kept restored restored_is_largest.consistent

pub loop_is_filtered : LoopIsFiltered
unfolding kind_of receiver sender sends bounds_of batches_of max_of parent_of declared_parent loops_of carried is_carried part_of
loop_is_filtered = record {
  well_formed = is_well_formed;
  epochs = loop_is_reached.epochs;
  legal = under_way_is_legal;
  frontiers = λ p. set-frontier two_batches p _;
  come = (choice-consistent two_batches counting_failed restored is_well_formed loop_meets).delivered;
  remains = refl;
  inclusions = loop_meets;
  full = record { quiet = under_way_is_complete.admissible.quiet; paid = under_way_is_complete.admissible.paid };
  present = refl;
  two_were_pending = under_way_leaves 3;
  one_is_pending = loop_is_restored.waiting 3;
  fewer = within_two 4294967295 3 _ _ (λ x y hx hy k. grind (arith, nat_tests));
  sent_from_fewer = refl;
  cut = λ t i. i;
  one_was_pending = under_way_leaves 2;
  two_are_pending = loop_is_restored.waiting 2;
}

-- ---- the sequence

numbers_come_from_kept : ComeFromKept numbers numbered_both kept_epoch
unfolding kind_of receiver sender sends batches_of bounds_of phi carried is_carried part_of
numbers_come_from_kept zero = ((λ k. absurd (false≢true k)), ((λ k. refl), ((λ k. refl), tt)))
numbers_come_from_kept (suc zero) = ((λ k. refl), ((λ k. refl), tt))
numbers_come_from_kept (suc (suc zero)) = tt
numbers_come_from_kept (suc (suc (suc e))) = each-one _ (delivered_messages numbered_both (suc (suc (suc e)))) (λ m k. and_from _ _ (and_parts _ _ k).0 k)

pub sequence_is_filtered : SequenceIsFiltered
unfolding kind_of receiver sender sends batches_of bounds_of phi carried is_carried part_of
sequence_is_filtered = record {
  well_formed = regroup_is_well_formed;
  epochs = numbers_have_epochs;
  legal = numbers_are_legal;
  frontiers = λ p. frontier-closed (bounds_of regroup_by_three p) (front_of (until 1 ∷ until 1 ∷ [] ∷ [] ∷ []) p);
  come = numbers_come_from_kept;
  remains = refl;
  sent_before = refl;
  sent_by_kept = refl;
  inside = refl;
  outside = refl;
}

pub numbers_are_delivered : NumbersAreDelivered
unfolding kind_of receiver sender sends batches_of bounds_of carried is_carried part_of
numbers_are_delivered = record {
  legal = numbers_are_legal;
  sequence = refl;
  numbered = refl;
  two = refl;
  third = refl;
  before = refl;
}

-- ---- witnesses for the laws of replay and of thinned stamps

same_is_sent : (e : ℕ) → sender total_flow e ≡ 1
    → messages_from (node_frontier total_flow 1 (until 2)) (sent_messages totals two_epochs e)
    ≡ messages_from (node_frontier total_flow 1 (until 2)) (sent_messages totals (next_epochs ++ two_epochs) e)
unfolding kind_of receiver sender sends batches_of bounds_of in_edges carried is_carried carried_timed part_of
same_is_sent zero s = absurd (omega (arith, s))
same_is_sent (suc zero) s = refl
same_is_sent (suc (suc e)) s = absurd (omega (arith, s))

pub two_epochs_are_the_same : TwoEpochsAreTheSame
unfolding kind_of receiver sender bounds_of
two_epochs_are_the_same = record { events = refl; sent = same_is_sent }

-- epoch 1 is kept, and lies inside
below_one : {t : Stamp} → leq t (1 ∷ []) ≡ true → IsBelowKept (node_frontier total_flow 1 (until 2)) (drop 1 four_epochs) t
unfolding bounds_of kind_of
below_one l = record { above = 1 ∷ []; is_kept = (0, lit< tt, refl); inside = refl; below = l }

pub epochs_are_thinned : EpochsAreThinned
unfolding bounds_of kind_of
epochs_are_thinned = record {
  thinned = record {
    among = ((1, lit< tt, refl), ((2, lit< tt, refl), ((3, lit< tt, refl), tt)));
    outside = ((λ k. absurd (false≢true (sym k))), ((λ k. (0, lit< tt, refl)), ((λ k. (1, lit< tt, refl)), ((λ k. (2, lit< tt, refl)), tt))));
    inside = ((λ k. below_one refl), ((λ k. below_one refl), ((λ k. absurd (false≢true k)), ((λ k. absurd (false≢true k)), tt))));
  };
  within = lies (bounds_of total_flow total_node) (until 2) (until 3) refl;
}

-- ---- witnesses for the laws of `auto`

abbrev any_in_flight : List Write → Bool
any_in_flight writes = list_any (λ (write : Write). is_in_flight write.stage) writes

one_in_flight : (earlier : List Write) (oldest : Write) (later : List Write) → is_in_flight oldest.stage ≡ true → any_in_flight (earlier ++ oldest ∷ later) ≡ true
one_in_flight [] o l k = or_left (is_in_flight o.stage) (any_in_flight l) k
one_in_flight (w ∷ ws) o l k = or_right (is_in_flight w.stage) (any_in_flight (ws ++ o ∷ l)) (one_in_flight ws o l k)

-- where no write is in flight, none is acknowledged
nothing_to_write : (state : Machine) → any_in_flight state.writes ≡ false → IsIdle totals state step.Persist
nothing_to_write state none next effect t =
    let a = t.1 in
    false≢true (sym none ∙ (ap any_in_flight a.before ∙ one_in_flight a.earlier a.oldest a.later a.in_flight))

pub writes_first : IsFirstEnabled totals output_failed (auto_steps total_flow) step.Persist all_written silent
writes_first = record {
  earlier = [];
  later = drop 1 (auto_steps total_flow);
  among = refl;
  none_earlier = tt;
  leads = takes totals output_failed persist refl;
}

pub delivers_then : IsFirstEnabled totals all_written (auto_steps total_flow) (step.Deliver 0 None) last_taken silent
unfolding kind_of receiver sender sends batches_of bounds_of policy_of carried is_carried part_of
delivers_then = record {
  earlier = step.Persist ∷ [];
  later = drop 2 (auto_steps total_flow);
  among = refl;
  none_earlier = (nothing_to_write all_written refl, tt);
  leads = takes totals all_written (deliver 0 None (valued_at_epoch 3 1)) refl;
}

pub two_steps_are_taken : TwoStepsAreTaken
two_steps_are_taken = record {
  one = (all_written, silent, writes_first, refl);
  other = (last_taken, silent, delivers_then, refl);
  both = (all_written, silent, writes_first, (last_taken, silent, delivers_then, refl));
}

none_is_live : (p : ℕ) → p < 3 → is_failed all_failed p ≡ false → ⊥
none_is_live zero l live = false≢true (sym live)
none_is_live (suc zero) l live = false≢true (sym live)
none_is_live (suc (suc zero)) l live = false≢true (sym live)
none_is_live (suc (suc (suc p))) l live = omega (arith, l)

-- three steps and others, where it is so of each of them
idle_at_each : (f : ℕ → Step) (others : List Step) → ((p : ℕ) → p < 3 → IsIdle totals all_failed (f p)) → AreIdle totals all_failed others
    → AreIdle totals all_failed (f 0 ∷ f 1 ∷ f 2 ∷ others)
idle_at_each f others each rest = (each 0 (lit< tt), (each 1 (lit< tt), (each 2 (lit< tt), rest)))

none_enabled : AreIdle totals all_failed (auto_steps total_flow)
unfolding receiver
none_enabled =
    let injections = idle_at_each step.Inject [] (λ p l next effect t. none_is_live p l t.2) tt in
    let outputs = idle_at_each step.Ack (drop 10 (auto_steps total_flow)) (λ p l next effect t. none_is_live p l t.1.live) injections in
    let progress : IsIdle totals all_failed step.Progress = λ next effect t. let some = t.2.some in none_is_live some.0 some.2 some.3 in
    let notices = idle_at_each (λ p. step.Notify p None) (drop 6 (auto_steps total_flow)) (λ p l next effect t. none_is_live p l t.2) (progress, outputs) in
    (nothing_to_write all_failed refl, ((λ next effect t. none_is_live 1 (lit< tt) t.2), ((λ next effect t. none_is_live 2 (lit< tt) t.2), notices)))

pub no_step_is_taken : NoStepIsTaken
no_step_is_taken = record {
  reached = plays totals (fail 0 (1 ∷ 2 ∷ []) ∷ []) (first_state totals) [] [] all_failed refl refl;
  none = (none_enabled, refl);
}
