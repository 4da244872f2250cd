-- The runs of nodes that log what they do.
use Rattle.std.proofs.Common.{List, None, [], arith, drop, lit<, refl, sym, true, ℕ, ◌++◌, ◌∷◌}
use Rattle.std.proofs.lemmas.Bool.{false≢true}
use Rattle.fw_frontier.specs.Front.{Front, frontier_of}
use Rattle.fw_frontier.specs.Frontier.{Within}
use Rattle.fw_frontier.proofs.NamesLaws.{frontier-closed}
use Rattle.fw_flow.specs.Dataflow.{batches_of, bounds_of, kind_of, out_edges, node_ids, policy_of, receiver, sender}
use Rattle.fw_flow.specs.NodeFunction.{sends}
use Rattle.fw_flow.specs.Projection.{phi, psi}
use Rattle.fw_flow.specs.WellFormed.{IsWellFormed}
use Rattle.fw_flow.specs.declared.choice.Choice.{Choice}
use Rattle.fw_flow.specs.declared.choice.Cut.{Cut}
use Rattle.fw_flow.specs.declared.choice.Cut.TheVariants.{At, Present}
use Rattle.fw_flow.specs.declared.event.Event.TheVariants.{Notify as Notified}
use Rattle.fw_flow.specs.declared.event.Message.{Message}
use Rattle.fw_flow.specs.KeyParts.{is_carried, part_of}
use Rattle.fw_model.specs.Carried.{carried}
use Rattle.fw_model.specs.Choice.{IsChoiceWithin, IsConsistent, IsCutWithin, IsLogged, IsWatermark, cut_of, kept, notice_of, until}
use Rattle.fw_model.specs.Machine.{Machine, events, first_state, is_failed}
use Rattle.fw_model.specs.Steps.{collected_writes, cuts, did, eager_writes, offers, silent, with_event}
use Rattle.fw_examples.specs.Flows.{pair}
use Rattle.fw_examples.specs.Logs.{CollectsALoggedEvent, KeepsALogWithACheckpoint, KeepsEventsOfATotal, LosesAnEpoch, all_but_the_last, both_come_back, checkpoints_logged, each_written, event_collected, events_logged, first_epoch_everywhere, first_message, log_kept, low_but_for_the_last, none, none_collected, nothing_left, nothing_restored, outcomes_with_checkpoints, outcomes_with_events, outcomes_with_total, second_message, steps_with_checkpoints, steps_with_events, steps_with_total, total_logged}
use Rattle.fw_examples.specs.RunningTotal.{alike}
use Rattle.fw_examples.proofs.Choosing.{consistent_by, largest_by, recovers_to, sender_within, set_within}
use Rattle.fw_examples.proofs.Fronts.{by_three, within_outside}
use Rattle.fw_examples.proofs.Plays.{Move, acknowledge, after_all, deliver, fail, inject, persist, plays}
use Rattle.fw_examples.proofs.Settling.{from_phi, notifies, settles}
use Rattle.fw_examples.proofs.WellFormed.{select_is_well_formed, total_is_well_formed}
use Rattle.fw_flow.specs.declared.kind.Policy.TheVariants as policy
use Rattle.fw_flow.specs.declared.step.Step.TheVariants as step

-- the message of epoch 0 with this rec
abbrev message : ℕ → ℕ → Message
message key value = record { at = 0 ∷ []; rec = pair key value; causes = (0 ∷ []) ∷ [] }

written_formed : IsWellFormed each_written.flow
written_formed = select_is_well_formed policy.Full tt

-- both recs come to the select
abbrev coming : List Move
coming = inject 0 0 ∷ deliver 0 None (message 1 20) ∷ deliver 0 None (message 2 30) ∷ []

abbrev both_taken : Machine
both_taken = after_all each_written (first_state each_written) coming

abbrev select_settled : Machine
select_settled = record both_taken { settled = [] ∷ [] ∷ none ∷ [] }

-- the write of one is acknowledged, and the select fails
abbrev select_failed : Machine
select_failed = after_all each_written select_settled (persist ∷ fail 1 [] ∷ [])

nothing_consistent : IsConsistent each_written select_failed (offers each_written select_failed) nothing_restored
unfolding kind_of receiver sender sends batches_of bounds_of policy_of phi psi carried is_carried part_of
nothing_consistent = consistent_by each_written select_failed (is_failed select_failed) kept nothing_restored written_formed refl refl refl refl

-- a frontier with epoch 0 holds the event that is not written
at_select : (cut : Cut) → offers each_written select_failed 1 cut → IsCutWithin each_written.flow 1 cut (At none)
unfolding kind_of policy_of bounds_of receiver
at_select Present o = absurd (false≢true (sym o))
at_select (At f) o =
    within_outside (bounds_of each_written.flow 1) _ none (frontier-closed _ f) refl ((λ i. not_logged (o.1.1.0 refl i)), tt)
  where
    not_logged : IsLogged 2 select_failed.writes → ⊥
    not_logged h = omega arith

nothing_above : (other : Choice) → IsConsistent each_written select_failed (offers each_written select_failed) other → IsChoiceWithin each_written.flow other nothing_restored
unfolding kind_of receiver sender sends batches_of bounds_of policy_of carried is_carried part_of
nothing_above other is =
    let selected = at_select (cut_of other 1) (is.offered 1 (lit< tt)) in
    let at_input = sender_within each_written select_failed _ other is 0 (lit< tt) none (0 ∷ []) (0 ∷ []) selected refl refl (λ sent f. refl) refl refl refl in
    let noted : Within (notice_of each_written.flow other 1) (frontier_of (bounds_of each_written.flow 1) none) =
    λ t i. set_within each_written 1 (cut_of other 1) none selected t (is.own 1 (lit< tt) t i) in
    record {
      cuts = by_three _ at_input selected tt;
      notices = by_three _
          (λ t i. set_within each_written 0 (cut_of other 0) none at_input t (is.own 0 (lit< tt) t i))
          noted
          (λ t i. noted t (from_phi each_written (events select_failed.history) 1 _ refl t (is.notices 1 (lit< tt) t i)));
    }

pub loses_an_epoch : LosesAnEpoch
unfolding kind_of receiver sender sends batches_of bounds_of policy_of phi psi carried is_carried part_of
loses_an_epoch =
    plays each_written coming (first_state each_written) (step.Progress ∷ step.Persist ∷ step.Fail (1 ∷ []) ∷ step.Recover ∷ [])
    (did silent ∷ did silent ∷ did silent ∷ did (cuts nothing_restored) ∷ []) nothing_left refl (
      select_settled,
      settles each_written both_taken ([] ∷ [] ∷ none ∷ []) written_formed refl refl refl 0 (0 ∷ []) (lit< tt) refl refl,
      plays each_written (persist ∷ fail 1 [] ∷ []) select_settled (step.Recover ∷ []) (did (cuts nothing_restored) ∷ []) nothing_left refl (
        nothing_left,
        recovers_to each_written select_failed nothing_restored (none ∷ none ∷ none ∷ []) 1 (lit< tt) refl
            (record { consistent = nothing_consistent; largest = nothing_above }) refl (by_three _ refl refl refl) refl,
        refl,
      ),
    )

-- ---- a select that logs each event

pub events_formed : IsWellFormed events_logged.flow
events_formed = select_is_well_formed policy.Full tt

-- epoch 0 comes through to the output, and epoch 1 to the select
abbrev coming_through : List Move
coming_through =
    inject 0 0 ∷ deliver 0 None first_message ∷ deliver 1 None first_message ∷ inject 0 1 ∷ deliver 0 None second_message ∷ []

abbrev two_logged : Machine
two_logged = after_all events_logged (first_state events_logged) coming_through

abbrev two_settled : Machine
two_settled = record two_logged { settled = all_but_the_last }

-- both events are acknowledged, and epoch 0 by the output
abbrev two_written : List Move
two_written = persist ∷ persist ∷ acknowledge 2 0 ∷ []

abbrev one_acknowledged : Machine
one_acknowledged = after_all events_logged two_settled two_written

abbrev one_collected : Machine
one_collected = record one_acknowledged {
  low = all_but_the_last;
  writes = collected_writes events_logged all_but_the_last one_acknowledged.history one_acknowledged.writes;
}

low_is : IsWatermark events_logged one_acknowledged low_but_for_the_last
unfolding kind_of receiver sender sends batches_of bounds_of policy_of phi psi carried is_carried part_of
low_is =
    largest_by events_logged one_acknowledged (λ p. true) kept low_but_for_the_last
    (consistent_by events_logged one_acknowledged (λ p. true) kept low_but_for_the_last events_formed refl refl refl refl) refl refl

pub collects_a_logged_event : CollectsALoggedEvent
unfolding kind_of receiver sender out_edges sends batches_of bounds_of policy_of phi psi carried is_carried part_of
collects_a_logged_event = record {
  reached =
      plays events_logged coming_through (first_state events_logged) (drop 5 steps_with_events) (drop 5 outcomes_with_events) event_collected refl (
        two_settled,
        settles events_logged two_logged all_but_the_last events_formed refl refl refl 0 (0 ∷ []) (lit< tt) refl refl,
        plays events_logged two_written two_settled (drop 9 steps_with_events) (drop 9 outcomes_with_events) event_collected refl (
          one_collected,
          (low_but_for_the_last, low_is, (λ e. cc), refl, refl),
          plays events_logged (fail 1 (2 ∷ []) ∷ []) one_collected [] [] event_collected refl refl,
        ),
      );
  largest =
      largest_by events_logged event_collected (is_failed event_collected) kept both_come_back
      (consistent_by events_logged event_collected (is_failed event_collected) kept both_come_back events_formed refl refl refl refl) refl refl;
  first_below = refl;
  second_inside = refl;
  second_needed = refl;
  log = refl;
  sent_again = refl;
}

-- ---- a select that writes checkpoints

pub checkpoints_formed : IsWellFormed checkpoints_logged.flow
checkpoints_formed = select_is_well_formed policy.Eager tt

-- epoch 0 comes through
abbrev first_moves : List Move
first_moves = inject 0 0 ∷ deliver 0 None first_message ∷ deliver 1 None first_message ∷ []

abbrev first_put_out : Machine
first_put_out = after_all checkpoints_logged (first_state checkpoints_logged) first_moves

-- and is settled, with a checkpoint of it; what is asked is kept with the low watermark
abbrev settled_to : Machine → List Front → Machine
settled_to state fronts = record state { settled = fronts; writes = state.writes ++ eager_writes checkpoints_logged state fronts (node_ids checkpoints_logged.flow) }

abbrev first_settled : Machine
first_settled = settled_to first_put_out (alike 1)

abbrev first_acknowledged : Machine
first_acknowledged = after_all checkpoints_logged first_settled (persist ∷ acknowledge 2 0 ∷ [])

abbrev first_collected : Machine
first_collected = record first_acknowledged { low = alike 1 }

-- epoch 1 comes to the select
abbrev second_moves : List Move
second_moves = inject 0 1 ∷ deliver 0 None second_message ∷ []

abbrev second_taken : Machine
second_taken = after_all checkpoints_logged first_collected second_moves

abbrev second_settled : Machine
second_settled = settled_to second_taken all_but_the_last

first_is_low : IsWatermark checkpoints_logged first_acknowledged first_epoch_everywhere
unfolding kind_of receiver sender sends batches_of bounds_of policy_of phi psi carried is_carried part_of
first_is_low =
    largest_by checkpoints_logged first_acknowledged (λ p. true) kept first_epoch_everywhere
    (consistent_by checkpoints_logged first_acknowledged (λ p. true) kept first_epoch_everywhere checkpoints_formed refl refl refl refl) refl refl

pub keeps_a_log_with_a_checkpoint : KeepsALogWithACheckpoint
unfolding kind_of receiver sender sends batches_of bounds_of policy_of phi psi carried is_carried part_of
keeps_a_log_with_a_checkpoint = record {
  reached =
      plays checkpoints_logged first_moves (first_state checkpoints_logged) (drop 3 steps_with_checkpoints) (drop 3 outcomes_with_checkpoints) log_kept refl (
        first_settled,
        settles checkpoints_logged first_put_out (alike 1) checkpoints_formed refl refl refl 0 (0 ∷ []) (lit< tt) refl refl,
        plays checkpoints_logged (persist ∷ acknowledge 2 0 ∷ []) first_settled (drop 6 steps_with_checkpoints) (drop 6 outcomes_with_checkpoints) log_kept refl (
          first_collected,
          (first_epoch_everywhere, first_is_low, (λ e. cc), refl, refl),
          plays checkpoints_logged second_moves first_collected (drop 9 steps_with_checkpoints) (drop 9 outcomes_with_checkpoints) log_kept refl (
            second_settled,
            settles checkpoints_logged second_taken all_but_the_last checkpoints_formed refl refl refl 0 (1 ∷ []) (lit< tt) refl refl,
            plays checkpoints_logged (persist ∷ fail 1 (2 ∷ []) ∷ []) second_settled [] [] log_kept refl refl,
          ),
        ),
      );
  largest =
      largest_by checkpoints_logged log_kept (is_failed log_kept) kept both_come_back
      (consistent_by checkpoints_logged log_kept (is_failed log_kept) kept both_come_back checkpoints_formed refl refl refl refl) refl refl;
  log_before = refl;
  log = refl;
  sent_again = refl;
}

-- ---- a running total that logs each event

pub total_formed : IsWellFormed total_logged.flow
total_formed = total_is_well_formed policy.Full tt

abbrev total_taken : Machine
total_taken = after_all total_logged (first_state total_logged) (inject 0 0 ∷ deliver 0 None first_message ∷ [])

abbrev total_summed : Machine
total_summed = with_event total_logged total_taken (Notified 1 (0 ∷ []))

abbrev total_put_out : Machine
total_put_out = after_all total_logged total_summed (deliver 1 None first_message ∷ [])

abbrev total_settled : Machine
total_settled = record total_put_out { settled = [] ∷ [] ∷ [] ∷ [] }

abbrev total_acknowledged : Machine
total_acknowledged = after_all total_logged total_settled two_written

total_is_low : IsWatermark total_logged total_acknowledged low_but_for_the_last
unfolding kind_of receiver sender sends batches_of bounds_of policy_of phi psi carried is_carried part_of
total_is_low =
    largest_by total_logged total_acknowledged (λ p. true) kept low_but_for_the_last
    (consistent_by total_logged total_acknowledged (λ p. true) kept low_but_for_the_last total_formed refl refl refl refl) refl refl

pub keeps_events_of_a_total : KeepsEventsOfATotal
unfolding kind_of receiver sender out_edges sends batches_of bounds_of policy_of phi psi carried is_carried part_of
keeps_events_of_a_total = record {
  reached =
      plays total_logged (inject 0 0 ∷ deliver 0 None first_message ∷ []) (first_state total_logged) (drop 2 steps_with_total) (drop 2 outcomes_with_total) none_collected refl (
        total_summed,
        notifies total_logged total_taken 1 (0 ∷ []) ([] ∷ until 0 ∷ until 0 ∷ []) total_formed (lit< tt) refl refl refl,
        plays total_logged (deliver 1 None first_message ∷ []) total_summed (drop 4 steps_with_total) (drop 4 outcomes_with_total) none_collected refl (
          total_settled,
          settles total_logged total_put_out ([] ∷ [] ∷ [] ∷ []) total_formed refl refl refl 0 (0 ∷ []) (lit< tt) refl refl,
          plays total_logged two_written total_settled (drop 8 steps_with_total) (drop 8 outcomes_with_total) none_collected refl
              (none_collected, (low_but_for_the_last, total_is_low, (λ e. cc), refl, refl), refl),
        ),
      );
  inside = refl;
  sent_inside = refl;
  first_kept = refl;
  second_kept = refl;
}
