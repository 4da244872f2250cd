-- The laws applied to their witnesses, which meet what they ask.
use Rattle.std.proofs.Common.{None, [], ap, lit<, refl, ◌++◌, ◌∙◌, ◌∷◌, arith, drop, inl, inr, lit≤, suc, sym, true, zero, ℕ, ◌≡◌, ◌⊎◌}
use Rattle.fw_flow.specs.Dataflow.{batches_of, bounds_of, declared_parent, in_edges, kind_of, loops_of, max_of, node_frontier, parent_of, policy_of, receiver, sender}
use Rattle.fw_flow.specs.declared.choice.Cut.TheVariants.{At}
use Rattle.fw_flow.specs.declared.event.Event.TheVariants.{Deliver as Delivered, Inject as Injected, Deliver, Inject, Notify}
use Rattle.fw_flow.specs.declared.step.Step.TheVariants.{Collect, Recover}
use Rattle.fw_flow.specs.KeyParts.{is_carried, part_of}
use Rattle.fw_model.specs.Carried.{carried, carried_timed}
use Rattle.fw_model.specs.Choice.{ever, kept, until}
use Rattle.fw_model.specs.Machine.{events, first_state, is_failed, checkpoint, acknowledged}
use Rattle.fw_model.specs.Steps.{cuts, did, lows, silent}
use Rattle.fw_examples.specs.Flows.{loop_counts_up, pair, two_batches, regroup_by_three, out, numbered_both, numbers, numbered_epoch, value_at}
use Rattle.fw_examples.specs.Applied.{ChoicesApply, ChoosingApplies, DeliveriesApply, FilteringApplies, LegalHistoriesApply, RunsApply, StepsApply, CollectionRestored, LogsRestored, RestoringApplies, DenotationApplies, ProjectionsApply, SendingApplies, AutoApplies, EventsApply, ReplayApplies, ThinnedApplies, WritesApply, begun, both_epochs, counted, counted_once_more, one_or_other, still_needed}
use Rattle.fw_examples.specs.Loop.{counted_rounds, counting_failed, restored, under_way, message, round, fed_back_edge}
use Rattle.fw_examples.specs.RunningTotal.{valued_at_epoch, come_back, epoch_kept, next_epochs, outcomes_through_recovery, outcomes_to_failure, outcomes_up_to_two, outcomes_without_failure, output_failed, steps_through_recovery, steps_to_failure, steps_up_to_two, steps_without_failure, totals, totals_denoted, two_epochs, two_epochs_kept, two_kept_noting, alike, total_flow}
use Rattle.fw_examples.specs.Witnesses.{both_rounds, complete_then, complete_two, first_rounds, joined_rounds, kept_epoch, kept_rounds, kept_totals, noted_totals, two_rounds, all_failed, all_written, four_epochs, last_taken, steps_by_themselves}
use Rattle.fw_examples.proofs.TotalRuns.{collects, run_through_recovery, runs_to_two, sum_acknowledged, ten_acknowledged, two_collected, two_epochs_are_low}
use Rattle.fw_examples.proofs.Witnesses.{an_epoch_is_closed, choices_unite, cuts_unite, each_step_has_its_choice, failure_is_reached, join_is_a_frontier, loop_is_filtered, more_is_complete, notified_and_goes_on, numbers_are_delivered, one_is_on_its_way, recovery_is_reached, sequence_is_filtered, some_is_settled, something_is_chosen, totals_are_filtered, totals_are_well_formed, two_epochs_are_complete, two_runs_meet, epochs_are_thinned, no_step_is_taken, two_epochs_are_the_same, two_steps_are_taken}
use Rattle.fw_flow.specs.NodeFunction.{sends}
use Rattle.fw_flow.specs.Projection.{events_at}
use Rattle.fw_flow.specs.WellFormed.{IsWellFormedSystem}
use Rattle.fw_examples.specs.Logs.{both_come_back, checkpoints_logged, event_collected, events_logged, log_kept, none_collected, one_came_through, outcomes_with_checkpoints, outcomes_with_events, outcomes_with_total, steps_with_checkpoints, steps_with_events, steps_with_total, total_logged}
use Rattle.fw_examples.proofs.Logs.{checkpoints_formed, collects_a_logged_event, events_formed, keeps_a_log_with_a_checkpoint, keeps_events_of_a_total, total_formed}
use Rattle.fw_examples.proofs.Loop.{loop_is_reached, loop_outcomes, loop_steps, restored_is_largest, runs_to_failure}
use Rattle.fw_examples.proofs.WellFormed.{system_by, is_well_formed}
use Rattle.std.proofs.lemmas.Bool.{and_parts, or_cases, or_left, or_right}
use Rattle.fw_time.specs.Stamp.{Stamp}
use Rattle.fw_frontier.specs.Frontier.{IsFrontier, Within, join, meet}
use Rattle.fw_frontier.proofs.NamesLaws.{frontier-closed}
use Rattle.fw_model.specs.Denotation.{AreInOrder, IsDenotation, rounds}
use Rattle.fw_model.specs.History.{AreEventsInDomain}
use Rattle.fw_model.specs.Order.{IsNotifiedInOrder}
use Rattle.fw_model.specs.SortedMessages.{sorted_messages}
use Rattle.fw_model.specs.Unions.{IsUnion}
use Rattle.fw_flow.specs.declared.step.Step.TheVariants as step
use Rattle.fw_examples.specs.RunningTotal as total

pub runs_apply : RunsApply
unfolding kind_of
runs_apply =
    let system = totals_are_well_formed in
    let reached = failure_is_reached.reached in
    let on = recovery_is_reached.goes_on in
    record {
      goes_on = λ law. law totals (first_state totals) output_failed come_back steps_to_failure (Recover ∷ []) outcomes_to_failure (did (cuts two_epochs_kept) ∷ []) reached
          (come_back, recovery_is_reached.step, refl);
      legal = λ law. law totals steps_to_failure outcomes_to_failure output_failed failure_is_reached.no_recovery reached;
      in_order = λ law. law totals steps_through_recovery outcomes_through_recovery (sum_acknowledged come_back) run_through_recovery out;
      step = λ law. law totals output_failed Recover come_back (did (cuts two_epochs_kept)) system.well_formed.flow system.epochs recovery_is_reached.legal recovery_is_reached.step;
      through = λ law. law totals (steps_to_failure ++ Recover ∷ []) (outcomes_to_failure ++ did (cuts two_epochs_kept) ∷ []) come_back system.well_formed.flow system.epochs recovery_is_reached.reached;
      candidates = λ law. law totals steps_to_failure outcomes_to_failure output_failed reached (is_failed output_failed) kept 1 (until 2) (lit< tt) refl some_is_settled.candidate;
      settled = λ law. law totals totals_denoted system.well_formed system.denoted steps_to_failure outcomes_to_failure output_failed reached;
      full = λ law. law totals totals_denoted output_failed system.well_formed system.denoted recovery_is_reached.legal some_is_settled.denoted;
      shown = λ law. law totals totals_denoted system.well_formed system.denoted steps_through_recovery outcomes_through_recovery on.0 on.1;
    }

pub choosing_applies : ChoosingApplies
unfolding bounds_of kind_of
choosing_applies =
    let formed = totals_are_well_formed.well_formed in
    let reached = failure_is_reached.reached in
    record {
      low = λ law. law totals formed steps_to_failure outcomes_to_failure output_failed reached;
      chains = λ law. law totals formed steps_to_failure outcomes_to_failure output_failed reached;
      choice = λ law. law totals formed steps_to_failure outcomes_to_failure output_failed reached;
      recovered = λ law. law totals formed steps_to_failure outcomes_to_failure output_failed reached out (lit< tt) refl;
      next = λ law. law totals formed steps_to_failure outcomes_to_failure output_failed reached;
      holds = λ law. law totals formed steps_to_failure outcomes_to_failure output_failed reached (is_failed output_failed) kept two_epochs_kept something_is_chosen.largest 1 (lit< tt);
      rises = λ law. law totals formed steps_up_to_two outcomes_up_to_two ten_acknowledged runs_to_two Collect two_collected (did (lows two_epochs_kept)) collects 1 (lit< tt);
      ever_largest = λ law. (law totals formed steps_to_failure outcomes_to_failure output_failed reached (is_failed output_failed) two_epochs_kept).0 something_is_chosen.largest;
      one_bag = λ law recs shown. law totals formed steps_without_failure steps_through_recovery outcomes_without_failure outcomes_through_recovery two_runs_meet.without.0 two_runs_meet.through.0
          two_runs_meet.without.1 two_runs_meet.through.1 2 (2 ∷ []) recs (pair 1 15 ∷ []) shown two_runs_meet.shown_through;
    }

pub steps_apply : StepsApply
steps_apply =
    let formed = totals_are_well_formed.well_formed in
    record {
      front = λ law. law _ joined_rounds join_is_a_frontier;
      complete_exists = λ law. law totals (events output_failed.history) formed.flow;
      only_complete = λ law done is. law totals (events output_failed.history) done complete_then is more_is_complete.complete;
      grows = λ law. law totals output_failed complete_then more_is_complete.complete more_is_complete.more;
      largest = λ law. law totals output_failed (is_failed output_failed) ever something_is_chosen.chains (two_kept_noting (until 0)) choices_unite.one;
      one_next = λ law other outcome taken. law totals output_failed Recover come_back other (did (cuts two_epochs_kept)) outcome recovery_is_reached.step taken;
      some_next = λ law. law totals output_failed formed.flow Collect each_step_has_its_choice.collection;
      exactly_one_next = λ law. law totals output_failed formed.flow Collect each_step_has_its_choice.collection;
    }

pub choices_apply : ChoicesApply
unfolding bounds_of kind_of sender receiver
choices_apply = record {
  one = λ law other is. law totals output_failed (is_failed output_failed) kept two_epochs_kept other something_is_chosen.largest is;
  have_union = λ law. law totals output_failed (is_failed output_failed) ever (two_kept_noting (until 0)) epoch_kept choices_unite.one choices_unite.other;
  each_within = λ law. law totals (two_kept_noting (until 0)) epoch_kept (two_kept_noting (until 1)) choices_unite.union;
  candidate = λ law. law totals output_failed (is_failed output_failed) ever 1 (At (until 2)) (At (until 1)) (At (until 2))
      (choices_unite.one.offered 1 (lit< tt)) (choices_unite.other.offered 1 (lit< tt)) (choices_unite.union.cuts 1 (lit< tt))
      (λ way. something_is_chosen.chains 1 (At (until 2)) (At (until 1)) (lit< tt) way
      (choices_unite.one.offered 1 (lit< tt)) (choices_unite.other.offered 1 (lit< tt)));
  delivered = λ law. law two_batches counting_failed 2 (At counted_rounds) (At first_rounds) (At both_rounds) cuts_unite.union;
  notified = λ law. law totals output_failed 1 (At (until 2)) (At (until 1)) (At (until 2)) (choices_unite.union.cuts 1 (lit< tt));
  discarded = λ law. law two_batches counting_failed 3 (At counted_rounds) (At first_rounds) (At both_rounds) cuts_unite.union;
  consistent = λ law. law totals output_failed (is_failed output_failed) ever (two_kept_noting (until 0)) epoch_kept (two_kept_noting (until 1))
      choices_unite.one choices_unite.other choices_unite.union choices_unite.offered;
}

pub deliveries_apply : DeliveriesApply
unfolding kind_of sender receiver bounds_of
deliveries_apply =
    let system = totals_are_well_formed in
    let flow = system.well_formed.flow in
    let closed = an_epoch_is_closed.closed in
    let goes_on = an_epoch_is_closed.goes_on in
    let two = two_epochs_are_complete in
    record {
      stays_closed = λ law. law totals two_epochs flow system.epochs 1 (1 ∷ []) closed next_epochs goes_on;
      final = λ law. law totals two_epochs flow system.epochs 1 (1 ∷ []) closed next_epochs goes_on 0 refl (1 ∷ []) refl;
      denoted_up_to = λ law. law totals two_epochs totals_denoted system.well_formed two.legal system.denoted 1 (1 ∷ []) closed 0 refl (1 ∷ []) refl;
      come_last = λ law. law totals (Delivered 0 (valued_at_epoch 1 10) ∷ Injected 0 1 ∷ Injected 0 0 ∷ []) flow system.epochs 1 (1 ∷ [])
          (next_epochs ++ Delivered 1 (valued_at_epoch 1 10) ∷ []) notified_and_goes_on;
      ascend = λ law. law numbers numbered_both numbers_are_delivered.legal 1 numbers_are_delivered.numbered;
      sent_denoted = λ law. law totals two_epochs totals_denoted system.well_formed two.legal system.denoted complete_two two.admissible 1 (1 ∷ []) two.inside_phi;
      delivered_denoted = λ law. law totals two_epochs totals_denoted system.well_formed two.legal system.denoted complete_two two.admissible 1 (1 ∷ []) two.inside;
      delivered_final = λ law. law totals two_epochs flow system.epochs complete_two two.admissible next_epochs goes_on 1 (1 ∷ []) two.inside;
      sent_sub_bag = λ law. law totals (next_epochs ++ two_epochs) totals_denoted system.well_formed one_is_on_its_way.legal system.denoted 1 (2 ∷ []) (pair 1 15);
      delivered_sub_bag = λ law. law totals (next_epochs ++ two_epochs) totals_denoted system.well_formed one_is_on_its_way.legal system.denoted 1 (2 ∷ []) (pair 1 15);
      enabled_outside = λ law. law totals two_epochs complete_two two.admissible (Injected 0 2) two.enabled;
      stays_admissible = λ law. law totals two_epochs flow system.epochs two.legal complete_two two.admissible (Injected 0 2) two.enabled;
    }

pub legal_histories_apply : LegalHistoriesApply
unfolding kind_of sender
legal_histories_apply =
    let system = totals_are_well_formed in
    let flow = system.well_formed.flow in
    let numbered = sequence_is_filtered in
    record {
      events_in_domain = λ law. law totals (next_epochs ++ two_epochs) flow system.epochs totals_are_filtered.legal;
      messages_in_domain = λ law. law totals (next_epochs ++ two_epochs) flow system.epochs totals_are_filtered.legal;
      inputs_inject = λ law. law totals (next_epochs ++ two_epochs) totals_are_filtered.legal 1 refl;
      notified_in_order = λ law. law numbers numbered_both numbered.well_formed numbered.epochs numbered.legal 1 numbers_are_delivered.sequence;
      from_inside = λ law. law numbers numbered_both numbered.well_formed numbered.epochs numbered.legal 1 (kept_epoch 1) (numbered.frontiers 1);
    }

pub filtering_applies : FilteringApplies
unfolding sender receiver
filtering_applies =
    let system = totals_are_well_formed in
    let flow = system.well_formed.flow in
    let total = totals_are_filtered in
    let lp = loop_is_filtered in
    let sequence = sequence_is_filtered in
    record {
      send_the_same = λ law. law numbers numbered_both kept_epoch sequence.well_formed sequence.epochs sequence.legal sequence.frontiers 1;
      send_the_same_from_within = λ law. law two_batches under_way kept_rounds lp.well_formed lp.epochs lp.legal lp.frontiers 3 two_rounds lp.fewer;
      deliver_the_same = λ law. law loop_counts_up under_way kept_rounds 2;
      phi_of_kept = λ law. law numbers numbered_both kept_epoch sequence.well_formed sequence.epochs sequence.legal sequence.frontiers 1 (kept_epoch 1) (λ t i. i) (1 ∷ []);
      kept_causes = λ law. law two_batches under_way kept_rounds lp.well_formed lp.epochs lp.legal lp.frontiers lp.come;
      legal = λ law. law totals (next_epochs ++ two_epochs) kept_totals noted_totals flow system.epochs total.legal total.consistently;
      inclusions = λ law. law totals output_failed (is_failed output_failed) kept two_epochs_kept something_is_chosen.largest.consistent;
      filtered_is_legal = λ law. law totals output_failed two_epochs_kept flow system.epochs total.legal total.inclusions;
      at_kept = λ law. law two_batches under_way kept_rounds lp.well_formed lp.epochs lp.legal lp.frontiers lp.come 3;
      at_others = λ law. law two_batches under_way kept_rounds lp.well_formed lp.epochs lp.legal lp.frontiers 2;
      for_present = λ law. law two_batches counting_failed restored lp.well_formed lp.epochs lp.legal lp.inclusions 3 lp.present;
      for_cut = λ law. law two_batches counting_failed restored lp.well_formed lp.epochs lp.legal lp.full lp.inclusions 2 lp.cut;
      without_log = λ law. law totals output_failed two_epochs_kept flow system.epochs total.legal total.full total.inclusions 0 total.cut total.discarded total.no_log;
    }

-- ---- the laws of restoring, applied to the running total

pub restoring_applies : RestoringApplies
unfolding bounds_of kind_of policy_of sender receiver batches_of
restoring_applies =
    let formed = totals_are_well_formed.well_formed in
    let reached = failure_is_reached.reached in
    let largest = something_is_chosen.largest in
    record {
      stay_true = λ law. law totals formed total.steps_to_failure total.outcomes_to_failure output_failed reached Recover come_back (did (cuts two_epochs_kept)) recovery_is_reached.step;
      as_asked = λ law. law totals formed total.steps_to_failure total.outcomes_to_failure output_failed reached;
      ascend = λ law. law totals formed total.steps_to_failure total.outcomes_to_failure output_failed reached [] (drop 1 output_failed.writes) (record { node = 1; written = checkpoint (until 1) (alike 0); base = None; depth = 0; stage = acknowledged }) refl (lit< tt) (until 1) (alike 0) refl;
      nothing_inside = λ law. law totals formed total.steps_to_failure total.outcomes_to_failure output_failed reached;
      at_cut = λ law. law totals formed total.steps_to_failure total.outcomes_to_failure output_failed reached (is_failed output_failed) two_epochs_kept largest 1 (until 2) refl refl (λ e. absurd (cc));
      watermarks = λ law. law totals formed total.steps_to_failure total.outcomes_to_failure output_failed reached;
      cut_batch = λ law. law totals formed total.steps_to_failure total.outcomes_to_failure output_failed reached (is_failed output_failed) two_epochs_kept largest 0 2 (lit< tt) refl;
      batch_to_come = λ law. law totals formed total.steps_to_failure total.outcomes_to_failure output_failed reached [] [] output_failed refl 0 4 refl (omega arith) (omega arith);
      collected_below = λ law. law totals formed total.steps_to_failure total.outcomes_to_failure output_failed reached;
      before = ten_acknowledged;
      two_asked = refl;
      forgotten = λ law. law totals formed steps_up_to_two outcomes_up_to_two ten_acknowledged runs_to_two two_epochs_kept two_epochs_are_low;
    }

events_system : IsWellFormedSystem events_logged
unfolding kind_of batches_of
events_system = system_by events_logged events_formed refl refl

checkpoints_system : IsWellFormedSystem checkpoints_logged
unfolding kind_of batches_of
checkpoints_system = system_by checkpoints_logged checkpoints_formed refl refl

total_system : IsWellFormedSystem total_logged
unfolding kind_of batches_of
total_system = system_by total_logged total_formed refl refl

pub collection_restored : CollectionRestored
unfolding policy_of
collection_restored =
    let reached = collects_a_logged_event.reached in
    record {
      logged = λ law. law events_logged events_system steps_with_events outcomes_with_events event_collected reached (is_failed event_collected) both_come_back collects_a_logged_event.largest 1 [] refl refl;
      never_collected = λ law. law events_logged events_system steps_with_events outcomes_with_events event_collected reached;
      never_of_total = λ law. law total_logged total_system steps_with_total outcomes_with_total none_collected keeps_events_of_a_total.reached;
      collected_below = λ law. law events_logged events_system steps_with_events outcomes_with_events event_collected reached;
    }

pub logs_restored : LogsRestored
unfolding kind_of sender receiver sends bounds_of batches_of max_of parent_of declared_parent loops_of carried is_carried part_of
logs_restored = record {
  two_again = refl;
  logs_of_loop = λ law. law two_batches loop_is_reached.well_formed loop_steps loop_outcomes counting_failed runs_to_failure (is_failed counting_failed) restored restored_is_largest 2 (lit< tt);
  logs_of_events = λ law. law events_logged events_system steps_with_events outcomes_with_events event_collected collects_a_logged_event.reached (is_failed event_collected) both_come_back collects_a_logged_event.largest 1 (lit< tt);
  kept_logs = λ law. law checkpoints_logged checkpoints_system steps_with_checkpoints outcomes_with_checkpoints log_kept keeps_a_log_with_a_checkpoint.reached (is_failed log_kept) both_come_back keeps_a_log_with_a_checkpoint.largest;
}

-- ---- the laws of projections, of sending and of the denotation, applied to what meets what they ask

counted_is_frontier : IsFrontier (bounds_of loop_counts_up (sender loop_counts_up fed_back_edge)) counted
counted_is_frontier = frontier-closed _ counted_rounds

begun_is_frontier : IsFrontier (bounds_of loop_counts_up (sender loop_counts_up fed_back_edge)) begun
begun_is_frontier = frontier-closed _ first_rounds

both_are_counted : Within (meet counted begun) counted
both_are_counted t i = (and_parts _ _ i).0

one_or_other_joined : IsUnion one_or_other (join counted begun)
one_or_other_joined = record { each_within = each_within; from_one = λ t i. from_one t (or_cases (counted t) (begun t) i) }
  where
    each_within : (i : ℕ) → Within (one_or_other i) (join counted begun)
    each_within zero t h = or_left (counted t) (begun t) h
    each_within (suc i) t h = or_right (counted t) (begun t) h

    from_one : (t : Stamp) → (counted t ≡ true) ⊎ (begun t ≡ true) → (i : ℕ) × (one_or_other i t ≡ true)
    from_one t (inl h) = (0, h)
    from_one t (inr h) = (1, h)

pub projections_apply : ProjectionsApply
unfolding kind_of sender
projections_apply = record {
  phi_is_frontier = λ law. law two_batches under_way fed_back_edge counted counted_is_frontier;
  phi_is_monotone = λ law. law two_batches under_way fed_back_edge (meet counted begun) counted both_are_counted;
  phi_by_count = λ law. law regroup_by_three 2 3 1 (kept_epoch 1) (kept_epoch 1) (λ t q. q) (lit≤ tt);
  phi_grows = λ law. law numbers numbered_epoch (Notify 1 (1 ∷ []) ∷ Deliver 0 (value_at 1 3 1) ∷ Inject 0 1 ∷ []) 1 both_epochs;
  phi_ignores_history = λ law u. law two_batches under_way [] fed_back_edge counted u refl;
  phi_of_meet = λ law. law two_batches under_way fed_back_edge counted begun counted_is_frontier begun_is_frontier;
  phi_of_everything = λ law. law numbers numbered_both 1;
  psi_is_frontier = λ law. law loop_counts_up fed_back_edge counted counted_is_frontier;
  psi_is_monotone = λ law. law loop_counts_up fed_back_edge (meet counted begun) counted both_are_counted;
  psi_of_union = λ law. law loop_counts_up fed_back_edge one_or_other (join counted begun) one_or_other_joined;
  psi_of_join = λ law. law loop_counts_up fed_back_edge counted begun;
  psi_of_nothing = λ law. law loop_counts_up fed_back_edge;
}

fed_back_in_domain : AreEventsInDomain loop_counts_up under_way 4
unfolding kind_of receiver bounds_of max_of parent_of declared_parent loops_of
fed_back_in_domain = (refl, (refl, tt))

numbered_in_domain : AreEventsInDomain regroup_by_three numbered_both 1
unfolding kind_of receiver bounds_of
numbered_in_domain = (refl, (refl, (refl, (refl, (refl, tt)))))

numbered_in_order : IsNotifiedInOrder regroup_by_three numbered_both 1
unfolding receiver
numbered_in_order = record { injects_nothing = refl; in_order = ((refl, tt), (tt, tt)) }

pub sending_applies : SendingApplies
unfolding kind_of sender bounds_of max_of parent_of declared_parent loops_of
sending_applies = record {
  senders = λ law. law loop_counts_up is_well_formed;
  monotone = λ law. law loop_counts_up 4 (round 0 0) (round 0 1) (round 0 2) refl refl refl;
  phi_by_send_stamps = λ law. law two_batches under_way fed_back_edge counted (lit≤ tt) counted_is_frontier (round 0 1) refl;
  psi_by_send_stamps = λ law. law loop_counts_up fed_back_edge counted (lit≤ tt) counted_is_frontier (round 0 1) refl;
  psi_back_by_send_stamps = λ law. law loop_counts_up fed_back_edge counted (lit≤ tt) counted_is_frontier (round 0 1) refl;
  psi_back_is_largest = λ law. law loop_counts_up fed_back_edge counted (lit≤ tt) counted_is_frontier;
  sends_at = λ law. law two_batches 4 refl [] (Deliver 3 (message (round 0 0) (pair 1 1) (round 0 0)));
  from_causes = λ law. law two_batches 4 refl [] (Deliver 3 (message (round 0 0) (pair 1 1) (round 0 0)));
  sends_inside = λ law. law two_batches fed_back_edge counted (lit≤ tt) counted_is_frontier [] (Deliver 3 (message (round 0 0) (pair 1 1) (round 0 0))) refl;
  sent_inside = λ law. law two_batches under_way fed_back_edge counted (lit≤ tt) counted_is_frontier;
  from_inside = λ law. law two_batches under_way fed_back_edge counted (lit≤ tt) counted_is_frontier fed_back_in_domain;
  sequence_from_inside = λ law. law numbers numbered_both 1 (kept_epoch 1) refl (sequence_is_filtered.frontiers 1) numbered_in_domain numbered_in_order;
  table = λ law. law numbers 1 refl;
}

numbers_solve : IsDenotation numbers (rounds numbers 4)
unfolding kind_of sender in_edges batches_of carried_timed is_carried part_of receiver
numbers_solve zero = refl
numbers_solve (suc zero) = refl
numbers_solve (suc (suc zero)) = refl
numbers_solve (suc (suc (suc e))) = refl

in_order_each : AreInOrder totals_denoted
unfolding kind_of sender in_edges batches_of carried_timed is_carried part_of receiver
in_order_each zero = refl
in_order_each (suc zero) = refl
in_order_each (suc (suc e)) = refl

none_before : (t : ℕ) → receiver total_flow t ≡ sender total_flow 0 → ⊥
unfolding sender receiver
none_before zero r = absurd (omega (arith, r))
none_before (suc zero) r = absurd (omega (arith, r))
none_before (suc (suc d)) r = absurd (omega (arith, r))

pub denotation_applies : DenotationApplies
unfolding kind_of sender in_edges batches_of receiver carried_timed is_carried part_of
denotation_applies =
    let system = totals_are_well_formed in
    let flow = system.well_formed.flow in
    record {
      measure = λ law. law loop_counts_up is_well_formed;
      decided = λ law other o same_recs. law (totals_denoted 0) other refl o same_recs;
      depends = λ law way t. law totals totals_denoted (λ e. []) flow way in_order_each (λ e. refl) 0 (lit< tt) t (λ d l r. absurd (none_before d r));
      only = λ law other is e. law totals other totals_denoted flow is system.denoted e;
      exists = λ law. law two_batches is_well_formed;
      unchanged = λ law. law totals 4 (λ e. sym (system.denoted e));
      later = λ law. law totals 4 9 system.denoted (lit≤ tt);
      ordered = λ law. law totals totals_denoted system.denoted;
      in_the_domain = λ law. law totals totals_denoted flow system.epochs system.denoted;
      numbered = λ law. law numbers (rounds numbers 4) sequence_is_filtered.well_formed numbers_solve 1 refl;
      three_numbers = refl;
    }

-- ---- the laws of writes, of replay, of events, of thinned stamps and of `auto`, applied to what meets what they ask

pub writes_apply : WritesApply
unfolding policy_of
writes_apply =
    let formed = totals_are_well_formed.well_formed in
    let reached = failure_is_reached.reached in
    record {
      differ = λ law. law totals formed steps_to_failure outcomes_to_failure output_failed reached [] (drop 1 output_failed.writes) (record { node = 1; written = checkpoint (until 1) (alike 0); base = None; depth = 0; stage = acknowledged }) refl (until 1) (alike 0) refl;
      have_stamps = λ law. law totals formed steps_to_failure outcomes_to_failure output_failed reached;
      chained = λ law. law totals formed steps_to_failure outcomes_to_failure output_failed reached 1 (lit< tt);
      newest = λ law. law totals formed steps_to_failure outcomes_to_failure output_failed reached 1 (until 0);
      in_order = λ law. law events_logged events_system steps_with_events outcomes_with_events event_collected collects_a_logged_event.reached;
      each_logged = λ law. law total_logged total_system steps_with_total outcomes_with_total none_collected keeps_events_of_a_total.reached 1 refl refl;
    }

pub replay_applies : ReplayApplies
unfolding kind_of policy_of sender receiver bounds_of sends carried is_carried part_of
replay_applies =
    let system = totals_are_well_formed in
    let reached = collects_a_logged_event.reached in
    let largest = collects_a_logged_event.largest in
    record {
      one_again = refl;
      those_left = λ law. law events_logged events_system steps_with_events outcomes_with_events event_collected reached (is_failed event_collected) both_come_back largest 1 [] refl refl;
      send_the_same = λ law. law events_logged events_system steps_with_events outcomes_with_events event_collected reached (is_failed event_collected) both_come_back largest 1 [] refl refl 1 (lit< tt) refl;
      their_part = λ law. law events_logged 1 refl still_needed (events_at events_logged.flow 1 one_came_through);
      same_part = λ law. law totals (next_epochs ++ two_epochs) two_epochs system.well_formed.flow system.epochs totals_are_filtered.legal two_epochs_are_complete.legal 1 (node_frontier total_flow 1 (until 2))
          (frontier-closed _ (until 2)) two_epochs_are_the_same;
    }

pub events_apply : EventsApply
unfolding kind_of sender receiver
events_apply =
    let formed = totals_are_well_formed.well_formed in
    let reached = failure_is_reached.reached in
    let numbered = numbers_are_delivered in
    record {
      four = refl;
      in_order = λ law. law totals formed steps_to_failure outcomes_to_failure output_failed reached 0;
      leaves_two = λ law. law totals formed steps_to_failure outcomes_to_failure output_failed reached two_epochs_kept 0 2 refl (lit≤ tt);
      outside = λ law. law totals formed steps_to_failure outcomes_to_failure output_failed reached (Delivered 0 (valued_at_epoch 3 1)) some_is_settled.enabled;
      as_sent = λ law. law totals (next_epochs ++ two_epochs) one_is_on_its_way.legal 1;
      follows = λ law. law two_batches (drop 1 under_way) counted_once_more loop_is_filtered.legal;
      goes_on = λ law. law numbers numbered_both sequence_is_filtered.well_formed numbered.legal 1 numbered.numbered;
      next = λ law. law numbers (drop 5 numbered_both) sequence_is_filtered.well_formed numbered.legal.1.1.1.1.1 1 numbered.numbered
          (value_at 0 1 0) (value_at 1 2 0 ∷ []) (ap sorted_messages numbered.before);
    }

pub thinned_applies : ThinnedApplies
thinned_applies law = law (bounds_of total_flow 1) (node_frontier total_flow 1 (until 2)) four_epochs (drop 1 four_epochs) epochs_are_thinned.thinned (node_frontier total_flow 1 (until 3)) epochs_are_thinned.within

pub auto_applies : AutoApplies
auto_applies =
    let taken = two_steps_are_taken in
    record {
      one = λ law others other is.
          let only = (law totals totals_are_well_formed.well_formed steps_to_failure outcomes_to_failure output_failed failure_is_reached.reached 2).3 in
          let mine = only steps_by_themselves last_taken taken.both in
          let its = only others other is in
          (its.0 ∙ sym mine.0, its.1 ∙ sym mine.1);
      none = λ law others other is.
          let only = (law totals totals_are_well_formed.well_formed (step.Fail (0 ∷ 1 ∷ 2 ∷ []) ∷ []) (did silent ∷ []) all_failed no_step_is_taken.reached 1).3 in
          let mine = only [] all_failed no_step_is_taken.none in
          let its = only others other is in
          (its.0 ∙ sym mine.0, its.1 ∙ sym mine.1);
      runs = λ law. law totals output_failed last_taken 2 steps_by_themselves taken.both;
      goes_on = λ law. law totals output_failed all_written last_taken (step.Persist ∷ []) (step.Deliver 0 None ∷ []) 1 taken.one taken.other;
    }
