-- The runs of the running total, and what is chosen in them.
use Rattle.std.proofs.Common.{Bool, false, List, None, Some, [], drop, lit<, refl, replicate, true, ℕ, ◌++◌, ◌<◌, ◌∷◌, ◌≡◌}
use Rattle.fw_time.specs.declared.stamp.Bounds.{Bounds}
use Rattle.fw_frontier.specs.Front.{IsFrontOf, frontier_of}
use Rattle.fw_frontier.specs.Frontier.{join}
use Rattle.fw_flow.specs.Dataflow.{batches_of, bounds_of, greatest_number, kind_of, policy_of, receiver, sender}
use Rattle.fw_flow.specs.NodeFunction.{sends}
use Rattle.fw_flow.specs.Projection.{phi, psi}
use Rattle.fw_flow.specs.WellFormed.{IsWellFormed}
use Rattle.fw_flow.specs.declared.choice.Choice.{Choice}
use Rattle.fw_flow.specs.declared.event.Event.TheVariants.{Notify as Notified}
use Rattle.fw_flow.specs.declared.step.Step.{Step}
use Rattle.fw_flow.specs.declared.step.Step.TheVariants.{Collect, Progress, Recover}
use Rattle.fw_flow.specs.KeyParts.{is_carried, part_of}
use Rattle.fw_model.specs.Carried.{carried}
use Rattle.fw_model.specs.Choice.{IsCandidate, IsChoiceWithin, IsConsistent, IsLargest, IsWatermark, cut_of, ever, kept, until}
use Rattle.fw_model.specs.Machine.{Machine, first_state, is_failed}
use Rattle.fw_model.specs.Steps.{Outcome, Run, StepsTo, acked, collected_writes, cuts, did, lows, offers, silent, recs_at_output, with_event}
use Rattle.fw_model.specs.Unions.{IsUnionOfChoices}
use Rattle.fw_model.proofs.GoingOn.{runs-go_on}
use Rattle.fw_examples.specs.Flows.{out}
use Rattle.fw_examples.specs.InTurn.{outcomes_to_unsettled, steps_to_unsettled, steps_unsettled, state_unsettled}
use Rattle.fw_examples.specs.RunningTotal.{alike, valued_at_epoch, come_back, epoch_kept, outcomes_of_failure, outcomes_of_sum, outcomes_through_recovery, outcomes_to_failure, outcomes_up_to_two, outcomes_without_failure, output_failed, total_node, steps_of_failure, steps_of_sum, steps_through_recovery, steps_to_failure, steps_up_to_two, steps_without_failure, total_flow, totals, two_epochs_kept, two_kept_noting}
use Rattle.fw_examples.proofs.Choosing.{above_by, consistent_by, largest_by, lies, offered_by, offered_within, recovers_to, sender_within}
use Rattle.fw_examples.proofs.Fronts.{by_three, canonical_by, join_by, join_other}
use Rattle.fw_examples.proofs.Plays.{Move, acknowledge, after_all, are_taken, ask, deliver, fail, inject, persist, plays}
use Rattle.fw_examples.proofs.Settling.{notifies, settles}
use Rattle.fw_examples.proofs.WellFormed.{total_is_well_formed}
use Rattle.fw_flow.specs.declared.kind.Policy.TheVariants as policy
use Rattle.fw_flow.specs.declared.step.Step.TheVariants as step

pub totals_formed : IsWellFormed total_flow
totals_formed = total_is_well_formed policy.Lazy tt

-- ---- epochs 0 and 1

-- the input sends an empty epoch
abbrev empty_sent : Machine
empty_sent = after_all totals (first_state totals) (inject 0 0 ∷ [])

abbrev empty_settled : Machine
empty_settled = record empty_sent { settled = alike 1 }

-- a checkpoint of it is written, and epoch 1 delivered to the running total
abbrev ten_moves : List Move
ten_moves = ask 1 ∷ persist ∷ inject 0 1 ∷ deliver 0 None (valued_at_epoch 1 10) ∷ []

abbrev ten_taken : Machine
ten_taken = after_all totals empty_settled ten_moves

abbrev ten_summed : Machine
ten_summed = with_event totals ten_taken (Notified 1 (1 ∷ []))

abbrev ten_put_out : Machine
ten_put_out = after_all totals ten_summed (deliver 1 None (valued_at_epoch 1 10) ∷ [])

abbrev ten_settled : Machine
ten_settled = record ten_put_out { settled = alike 2 }

-- a checkpoint of both is written, and both are acknowledged
abbrev ten_last : List Move
ten_last = ask 1 ∷ persist ∷ acknowledge 2 0 ∷ acknowledge 2 1 ∷ []

abbrev pub ten_acknowledged : Machine
ten_acknowledged = after_all totals ten_settled ten_last

pub runs_to_two : Run totals (first_state totals) steps_up_to_two outcomes_up_to_two ten_acknowledged
unfolding kind_of receiver sender sends batches_of bounds_of policy_of phi carried is_carried part_of
runs_to_two =
    plays totals (inject 0 0 ∷ []) (first_state totals) (drop 1 steps_up_to_two) (drop 1 outcomes_up_to_two) ten_acknowledged refl (
      empty_settled,
      settles totals empty_sent (alike 1) totals_formed refl refl refl 0 (0 ∷ []) (lit< tt) refl refl,
      plays totals ten_moves empty_settled (drop 6 steps_up_to_two) (drop 6 outcomes_up_to_two) ten_acknowledged refl (
        ten_summed,
        notifies totals ten_taken 1 (1 ∷ []) (until 2 ∷ until 0 ∷ until 0 ∷ []) totals_formed (lit< tt) refl refl refl,
        plays totals (deliver 1 None (valued_at_epoch 1 10) ∷ []) ten_summed (drop 8 steps_up_to_two) (drop 8 outcomes_up_to_two) ten_acknowledged refl (
          ten_settled,
          settles totals ten_put_out (alike 2) totals_formed refl refl refl 0 (1 ∷ []) (lit< tt) refl refl,
          plays totals ten_last ten_settled [] [] ten_acknowledged refl refl,
        ),
      ),
    )

-- ---- the collection

pub two_epochs_are_low : IsWatermark totals ten_acknowledged two_epochs_kept
unfolding kind_of receiver sender sends batches_of bounds_of policy_of phi psi carried is_carried part_of
two_epochs_are_low =
    largest_by totals ten_acknowledged (λ p. true) kept two_epochs_kept
    (consistent_by totals ten_acknowledged (λ p. true) kept two_epochs_kept totals_formed refl refl refl refl) refl refl

-- ---- epoch 2, after the collection

abbrev pub two_collected : Machine
two_collected = record ten_acknowledged {
  low = alike 2;
  writes = collected_writes totals (alike 2) ten_acknowledged.history ten_acknowledged.writes;
}

pub collects : StepsTo totals ten_acknowledged Collect two_collected (did (lows two_epochs_kept))
unfolding kind_of receiver bounds_of policy_of
collects = (two_epochs_kept, two_epochs_are_low, (λ e. cc), refl, refl)

-- epoch 2 is delivered to the running total
abbrev five_moves : List Move
five_moves = inject 0 2 ∷ deliver 0 None (valued_at_epoch 2 5) ∷ []

abbrev five_taken : Machine
five_taken = after_all totals two_collected five_moves

abbrev five_summed : Machine
five_summed = with_event totals five_taken (Notified 1 (2 ∷ []))

abbrev sum_settled : Machine
sum_settled = record five_summed { settled = until 3 ∷ until 3 ∷ until 2 ∷ [] }

-- a checkpoint of it is asked, epoch 3 is sent, and the output fails
abbrev failing : List Move
failing = ask 1 ∷ inject 0 3 ∷ fail 2 [] ∷ []

runs_to_failure : Run totals two_collected steps_of_failure outcomes_of_failure output_failed
unfolding kind_of receiver sender sends batches_of bounds_of policy_of phi carried is_carried part_of
runs_to_failure =
    plays totals five_moves two_collected (drop 2 steps_of_failure) (drop 2 outcomes_of_failure) output_failed refl (
      five_summed,
      notifies totals five_taken 1 (2 ∷ []) (until 3 ∷ until 0 ∷ until 0 ∷ []) totals_formed (lit< tt) refl refl refl,
      (
        sum_settled,
        settles totals five_summed (until 3 ∷ until 3 ∷ until 2 ∷ []) totals_formed refl refl refl 0 (2 ∷ []) (lit< tt) refl refl,
        plays totals failing sum_settled [] [] output_failed refl refl,
      ),
    )

-- with no step in between that settles
runs_unsettled : Run totals two_collected steps_unsettled (replicate 5 (did silent)) state_unsettled
unfolding kind_of receiver sender sends batches_of bounds_of policy_of phi carried is_carried part_of
runs_unsettled =
    plays totals five_moves two_collected (drop 2 steps_unsettled) (replicate 3 (did silent)) state_unsettled refl (
      five_summed,
      notifies totals five_taken 1 (2 ∷ []) (until 3 ∷ until 0 ∷ until 0 ∷ []) totals_formed (lit< tt) refl refl refl,
      plays totals (inject 0 3 ∷ fail 2 [] ∷ []) five_summed [] [] state_unsettled refl refl,
    )

-- epoch 2 is summed, comes through and is settled, from a state with epochs 0 and 1 alone
abbrev summed : Machine → Machine
summed state = with_event totals (after_all totals state five_moves) (Notified 1 (2 ∷ []))

abbrev put_out : Machine → Machine
put_out state = after_all totals (summed state) (deliver 1 None (valued_at_epoch 2 15) ∷ [])

abbrev come_through : Machine → Machine
come_through state = record (put_out state) { settled = alike 3 }

-- it is acknowledged
abbrev pub sum_acknowledged : Machine → Machine
sum_acknowledged state = after_all totals (come_through state) (acknowledge 2 2 ∷ [])

-- what it shows
abbrev outcomes_from : Machine → List Outcome
outcomes_from state = replicate 5 (did silent) ++ did (acked 2 (2 ∷ []) (recs_at_output totals (come_through state) 2 2)) ∷ []

-- the same steps without a failure, and from the recovered state
runs_sum : (state : Machine) → are_taken totals state five_moves ≡ true
    → StepsTo totals (after_all totals state five_moves) (step.Notify 1 (Some (2 ∷ []))) (summed state) (did silent)
    → are_taken totals (summed state) (deliver 1 None (valued_at_epoch 2 15) ∷ []) ≡ true → StepsTo totals (put_out state) Progress (come_through state) (did silent)
    → are_taken totals (come_through state) (acknowledge 2 2 ∷ []) ≡ true
    → Run totals state steps_of_sum (outcomes_from state) (sum_acknowledged state)
runs_sum state five sum out settled last =
    plays totals five_moves state (drop 2 steps_of_sum) (drop 2 (outcomes_from state)) (sum_acknowledged state) five (
      summed state,
      sum,
      plays totals (deliver 1 None (valued_at_epoch 2 15) ∷ []) (summed state) (drop 4 steps_of_sum) (drop 4 (outcomes_from state)) (sum_acknowledged state) out
          (come_through state, settled, plays totals (acknowledge 2 2 ∷ []) (come_through state) [] [] (sum_acknowledged state) last refl),
    )

runs_on : Run totals two_collected steps_of_sum outcomes_of_sum (sum_acknowledged two_collected)
unfolding kind_of receiver sender sends batches_of bounds_of policy_of phi carried is_carried part_of
runs_on =
    runs_sum two_collected refl (notifies totals five_taken 1 (2 ∷ []) (until 3 ∷ until 0 ∷ until 0 ∷ []) totals_formed (lit< tt) refl refl refl) refl
    (settles totals (put_out two_collected) (alike 3) totals_formed refl refl refl 0 (2 ∷ []) (lit< tt) refl refl) refl

runs_again : Run totals come_back steps_of_sum outcomes_of_sum (sum_acknowledged come_back)
unfolding kind_of receiver sender sends batches_of bounds_of policy_of phi carried is_carried part_of
runs_again =
    runs_sum come_back refl (notifies totals (after_all totals come_back five_moves) 1 (2 ∷ []) (until 3 ∷ until 0 ∷ until 0 ∷ []) totals_formed (lit< tt) refl refl refl) refl
    (settles totals (put_out come_back) (alike 3) totals_formed refl refl refl 0 (2 ∷ []) (lit< tt) refl refl) refl

-- ---- the recovery

-- epochs 0 and 1 are offered
pub two_offered : (lost : ℕ → Bool) (p : ℕ) → p < 3 → IsCandidate totals output_failed lost kept p (cut_of two_epochs_kept p)
unfolding kind_of policy_of bounds_of batches_of receiver
two_offered lost = offered_by totals output_failed lost kept two_epochs_kept refl

pub kept_consistent : (lost : ℕ → Bool) → IsConsistent totals output_failed (IsCandidate totals output_failed lost kept) two_epochs_kept
unfolding kind_of receiver sender sends batches_of bounds_of policy_of phi psi carried is_carried part_of
kept_consistent lost = consistent_by totals output_failed lost kept two_epochs_kept totals_formed refl refl refl refl

-- with fewer notices at the output
pub noting_less : (lost : ℕ → Bool) → IsConsistent totals output_failed (IsCandidate totals output_failed lost kept) (two_kept_noting (until 0))
unfolding kind_of receiver sender sends batches_of bounds_of policy_of phi psi carried is_carried part_of
noting_less lost = consistent_by totals output_failed lost kept (two_kept_noting (until 0)) totals_formed refl refl refl refl

pub noting_none : (lost : ℕ → Bool) → IsConsistent totals output_failed (IsCandidate totals output_failed lost ever) (two_kept_noting (until 0))
unfolding kind_of receiver sender sends batches_of bounds_of policy_of phi psi carried is_carried part_of
noting_none lost = consistent_by totals output_failed lost ever (two_kept_noting (until 0)) totals_formed refl refl refl refl

-- and of epoch 0 alone
pub epoch_consistent : (lost : ℕ → Bool) → IsConsistent totals output_failed (IsCandidate totals output_failed lost ever) epoch_kept
unfolding kind_of receiver sender sends batches_of bounds_of policy_of phi psi carried is_carried part_of
epoch_consistent lost = consistent_by totals output_failed lost ever epoch_kept totals_formed refl refl refl refl

-- The output settled no more; neither the running total nor the input can keep an epoch that it sent and that the receiver does
-- not keep.
kept_above : (other : Choice) → IsConsistent totals output_failed (offers totals output_failed) other → IsChoiceWithin totals.flow other two_epochs_kept
unfolding kind_of receiver sender sends batches_of bounds_of policy_of carried is_carried part_of
kept_above other is =
    let at_out = offered_within totals output_failed (is_failed output_failed) kept 2 (until 2) refl refl (cut_of other 2) (is.offered 2 (lit< tt)) in
    let at_run = sender_within totals output_failed _ other is 1 (lit< tt) (until 2) (2 ∷ []) (2 ∷ []) at_out refl refl (λ sent f. refl) refl refl refl in
    let at_src = sender_within totals output_failed _ other is 0 (lit< tt) (until 2) (2 ∷ []) (2 ∷ []) at_run refl refl (λ sent f. refl) refl refl refl in
    above_by totals output_failed _ two_epochs_kept other is (by_three _ at_src at_run at_out) refl

pub kept_largest : IsLargest totals output_failed (offers totals output_failed) two_epochs_kept
kept_largest = record { consistent = kept_consistent (is_failed output_failed); largest = kept_above }

pub recovers : StepsTo totals output_failed Recover come_back (did (cuts two_epochs_kept))
unfolding kind_of receiver bounds_of policy_of
recovers = recovers_to totals output_failed two_epochs_kept (alike 2) 2 (lit< tt) refl kept_largest refl (by_three _ refl refl refl) refl

pub union_of_both : IsUnionOfChoices totals (two_kept_noting (until 0)) epoch_kept (two_kept_noting (until 1))
unfolding kind_of bounds_of
union_of_both = record {
  one_cut_each = refl;
  one_notice_each = refl;
  cuts = by_three _ two two two;
  notices = by_three _ two two (record { canonical = canonical_by epochs (until 1) refl; same = join_by _ _ (lies epochs (until 0) (until 1) refl) });
}
  where
    epochs : Bounds
    epochs = record { greatest = greatest_number ∷ []; sides = false }

    two : IsFrontOf epochs (until 2) (join (frontier_of epochs (until 2)) (frontier_of epochs (until 1)))
    two = record { canonical = canonical_by epochs (until 2) refl; same = join_other _ _ (lies epochs (until 1) (until 2) refl) }

-- ---- the whole runs

pub failed_run : Run totals (first_state totals) steps_to_failure outcomes_to_failure output_failed
failed_run =
    runs-go_on totals (first_state totals) ten_acknowledged output_failed steps_up_to_two (Collect ∷ steps_of_failure) outcomes_up_to_two (did (lows two_epochs_kept) ∷ outcomes_of_failure) runs_to_two
    (two_collected, collects, runs_to_failure)

pub unsettled_run : Run totals (first_state totals) steps_to_unsettled outcomes_to_unsettled state_unsettled
unsettled_run =
    runs-go_on totals (first_state totals) ten_acknowledged state_unsettled steps_up_to_two (Collect ∷ steps_unsettled) outcomes_up_to_two (did (lows two_epochs_kept) ∷ replicate 5 (did silent)) runs_to_two
    (two_collected, collects, runs_unsettled)

-- what follows the failure
pub after_failure : (steps : List Step) (outcomes : List Outcome) (last : Machine) → Run totals come_back steps outcomes last
    → Run totals (first_state totals) (steps_to_failure ++ Recover ∷ steps) (outcomes_to_failure ++ did (cuts two_epochs_kept) ∷ outcomes) last
after_failure steps outcomes last total_node =
    runs-go_on totals (first_state totals) output_failed last steps_to_failure (Recover ∷ steps) outcomes_to_failure (did (cuts two_epochs_kept) ∷ outcomes) failed_run
    (come_back, recovers, total_node)

pub run_through_recovery : Run totals (first_state totals) steps_through_recovery outcomes_through_recovery (sum_acknowledged come_back)
run_through_recovery = after_failure steps_of_sum outcomes_of_sum (sum_acknowledged come_back) runs_again

pub run_without_failure : Run totals (first_state totals) steps_without_failure outcomes_without_failure (sum_acknowledged two_collected)
run_without_failure =
    runs-go_on totals (first_state totals) ten_acknowledged (sum_acknowledged two_collected) steps_up_to_two (Collect ∷ steps_of_sum) outcomes_up_to_two (did (lows two_epochs_kept) ∷ outcomes_of_sum) runs_to_two
    (two_collected, collects, runs_on)
