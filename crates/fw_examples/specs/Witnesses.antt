-- Witnesses for the laws: what they ask holds of the running total, of the loop and of a sequence, where what they say is not empty.
use Rattle.std.specs.Prelude.{List, None, Some, [], drop, false, length, map, true, ℕ, ◌++◌, ◌<◌, ◌∷◌, ◌≡◌, ◌≢◌}
use Rattle.fw_bag.specs.Bag.{how_often}
use Rattle.fw_time.specs.Stamp.{Stamp}
use Rattle.fw_frontier.specs.Front.{Front}
use Rattle.fw_frontier.specs.Frontier.{Frontier, IsFrontier, Within, join}
use Rattle.fw_flow.specs.Dataflow.{HasEpochs, bounds_of, is_numbered, kind_of, policy_of, receiver, sender, node_frontier}
use Rattle.fw_flow.specs.Projection.{phi}
use Rattle.fw_flow.specs.Restoring.{can_resend, way_of}
use Rattle.fw_flow.specs.WellFormed.{IsWellFormed, IsWellFormedSystem}
use Rattle.fw_flow.specs.declared.choice.Cut.TheVariants.{At, Present}
use Rattle.fw_flow.specs.declared.event.Event.TheVariants.{Deliver as Delivered, Inject as Injected, Notify as Notified}
use Rattle.fw_flow.specs.declared.restoring.Restoring.TheVariants.{Checkpoints}
use Rattle.fw_flow.specs.declared.step.Step.{Step}
use Rattle.fw_flow.specs.declared.step.Step.TheVariants.{Collect, Deliver, Fail, Persist, Recover}
use Rattle.fw_model.specs.Acknowledgements.{Shows, stamps_acknowledged}
use Rattle.fw_model.specs.Auto.{IsAutoRun}
use Rattle.fw_model.specs.Choice.{IsCandidate, LiesInReceiver, IsChoiceWithin, IsConsistent, IsCutWithin, IsLargest, cut_of, ever, filtered_history, kept, kept_of, notice_of, until}
use Rattle.fw_model.specs.Choosing.{AreCheckpointsChains, HasItsChoice}
use Rattle.fw_model.specs.Covers.{covers_in}
use Rattle.fw_model.specs.Denotation.{IsDenotation, bag_at, rounds}
use Rattle.fw_model.specs.Filtering.{AreFrontiers, ComeFromKept, IsConsistentlyKept, MeetsInclusions, kept_events, messages_from}
use Rattle.fw_model.specs.History.{IsAdmissible, IsClosedFor, IsComplete, IsEnabled, IsLegal, delivered_messages, pending_messages, recs_at, sent_messages}
use Rattle.fw_model.specs.Machine.{Machine, Write, acknowledged, checkpoint, events, first_state, front_of, in_flight, is_failed}
use Rattle.fw_model.specs.Sending.{SendsByCount}
use Rattle.fw_model.specs.Settled.{HasMoreToSettle, IsCutWithinSettled, IsDenotedInside, IsFull}
use Rattle.fw_model.specs.Steps.{HaveNoRecovery, Run, StepsTo, cuts, did, lows, silent, with_event}
use Rattle.fw_model.specs.Thinned.{IsThinned}
use Rattle.fw_model.specs.Unions.{IsUnionOfChoices, IsUnionOfCuts}
use Rattle.fw_model.specs.Writes.{IsSamePart}
use Rattle.fw_examples.specs.Flows.{loop_counts_up, pair, regroup_by_three, two_batches, out, src, numbered_both, numbered_epoch, numbers, value_at}
use Rattle.fw_examples.specs.Loop.{counted_rounds, counting_failed, message, outcomes_left, outcomes_shown, restored, round, steps_left, steps_taken, under_way, without_the_second}
use Rattle.fw_examples.specs.RunningTotal.{alike, valued_at_epoch, come_back, epoch_kept, next_epochs, outcomes_through_recovery, outcomes_to_failure, outcomes_up_to_two, outcomes_without_failure, output_failed, total_node, run_to_out, src_to_run, steps_through_recovery, steps_to_failure, steps_up_to_two, steps_without_failure, total_flow, totals, totals_denoted, two_epochs, two_epochs_kept, two_kept_noting}

-- The running total is well formed, its batches have epochs, and the rounds are its denotation.
pub record TotalsAreWellFormed : Type 0 where
  pub well_formed : IsWellFormedSystem totals
  pub epochs : HasEpochs totals
  pub denoted : IsDenotation totals totals_denoted

-- A state that is reached without a recovery: an output is failed, two checkpoints are acknowledged, and the latest is in flight; a
-- message is pending on each edge, and two epochs were acknowledged, with what is denoted.
pub record FailureIsReached : Type 0 where
  pub no_recovery : HaveNoRecovery steps_to_failure
  pub reached : Run totals (first_state totals) steps_to_failure outcomes_to_failure output_failed
  pub failed : is_failed output_failed out ≡ true
  pub written : map (λ (write : Write). write.stage) output_failed.writes ≡ acknowledged ∷ acknowledged ∷ in_flight ∷ []
  pub pending_for_total : pending_messages totals (events output_failed.history) src_to_run ≡ valued_at_epoch 3 1 ∷ []
  pub pending_for_output : pending_messages totals (events output_failed.history) run_to_out ≡ valued_at_epoch 2 15 ∷ []
  pub acknowledged : stamps_acknowledged out outcomes_to_failure ≡ (0 ∷ []) ∷ (1 ∷ []) ∷ []
  pub bag : bag_at totals_denoted run_to_out (1 ∷ []) ≡ pair 1 10 ∷ []

-- A recovery is a step from that state, filters out some events and keeps others, and one more epoch is acknowledged after it.
pub record RecoveryIsReached : Type 0 where
  pub step : StepsTo totals output_failed Recover come_back (did (cuts two_epochs_kept))
  pub before : events output_failed.history ≡ next_epochs ++ two_epochs
  pub after : events come_back.history ≡ two_epochs
  pub legal : IsLegal totals (events output_failed.history)
  pub reached : Run totals (first_state totals) (steps_to_failure ++ Recover ∷ []) (outcomes_to_failure ++ did (cuts two_epochs_kept) ∷ []) come_back
  pub goes_on : (last : Machine) × Run totals (first_state totals) steps_through_recovery outcomes_through_recovery last
  pub acknowledged : stamps_acknowledged out outcomes_through_recovery ≡ (0 ∷ []) ∷ (1 ∷ []) ∷ (2 ∷ []) ∷ []
  pub bag : bag_at totals_denoted run_to_out (2 ∷ []) ≡ pair 1 15 ∷ []

-- Two runs, one of them through a failure and a recovery, acknowledge one epoch after the steps in which they differ.
pub record TwoRunsMeet : Type 0 where
  pub through : (last : Machine) × Run totals (first_state totals) steps_through_recovery outcomes_through_recovery last
  pub without : (last : Machine) × Run totals (first_state totals) steps_without_failure outcomes_without_failure last
  pub shown_through : Shows out (2 ∷ []) (pair 1 15 ∷ []) outcomes_through_recovery
  pub shown_without : Shows out (2 ∷ []) (pair 1 15 ∷ []) outcomes_without_failure

-- In the state of the failure some epochs are settled and others not, what was delivered in them is denoted, a node can be
-- restored to less than it settled, and a message of an epoch that is not settled may be delivered to it.
pub record SomeIsSettled : Type 0 where
  pub denoted : IsDenotedInside totals totals_denoted output_failed
  pub settled : output_failed.settled ≡ until 3 ∷ until 3 ∷ until 2 ∷ []
  pub delivered : recs_at (1 ∷ []) (delivered_messages (events output_failed.history) run_to_out) ≡ pair 1 10 ∷ []
  pub candidate : IsCandidate totals output_failed (is_failed output_failed) kept total_node (At (until 2))
  pub enabled : IsEnabled totals (events output_failed.history) (Delivered src_to_run (valued_at_epoch 3 1))

-- There the largest choice keeps two epochs of four, as the low watermark does, and checkpoints are chains; a checkpoint below the
-- low watermark, which is there since another one stands on it, is offered only where what was collected counts.
pub record SomethingIsChosen : Type 0 where
  pub largest : IsLargest totals output_failed (IsCandidate totals output_failed (is_failed output_failed) kept) two_epochs_kept
  pub low : output_failed.low ≡ alike 2
  pub chains : AreCheckpointsChains totals output_failed (is_failed output_failed) ever
  pub offered_ever : IsCandidate totals output_failed (is_failed output_failed) ever total_node (At (until 1))
  pub not_kept : IsCandidate totals output_failed (is_failed output_failed) kept total_node (At (until 1)) → ⊥

-- A recovery and a collection have something to choose there.
pub record EachStepHasItsChoice : Type 0 where
  pub recovery : HasItsChoice totals output_failed Recover
  pub collection : HasItsChoice totals output_failed Collect

-- Before, a collection was a step from a state that is reached, and raised the low watermark from nothing.
abbrev pub LowWatermarkRises : Type 0
LowWatermarkRises =
    (before : Machine) × (after : Machine)
    × Run totals (first_state totals) steps_up_to_two outcomes_up_to_two before
    × StepsTo totals before Collect after (did (lows two_epochs_kept))
    × (before.low ≡ alike 0)
    × (after.low ≡ alike 2)

-- what is complete in the state of the failure
abbrev pub complete_then : ℕ → Frontier
complete_then p = node_frontier total_flow p (front_of (until 4 ∷ until 3 ∷ until 2 ∷ []) p)

-- Some is complete there at each node, and more than is settled at a node that is not failed.
pub record MoreIsComplete : Type 0 where
  pub complete : IsComplete totals (events output_failed.history) complete_then
  pub more : HasMoreToSettle totals output_failed complete_then

-- The loop that counts up is well formed with its two batches, and is run through a failure and a recovery, after which both
-- epochs are acknowledged.
pub record LoopIsReached : Type 0 where
  pub well_formed : IsWellFormedSystem two_batches
  pub epochs : HasEpochs two_batches
  pub denoted : IsDenotation two_batches (rounds two_batches 14)
  pub runs : (last : Machine) × Run two_batches (first_state two_batches) (steps_taken ++ steps_left) (outcomes_shown ++ outcomes_left) last
  pub acknowledged : stamps_acknowledged 6 (outcomes_shown ++ outcomes_left) ≡ (0 ∷ []) ∷ (1 ∷ []) ∷ []

-- ---- witnesses for the laws of choices: what they ask holds of choices and cuts of which none lies within the other

-- Counting what was collected, two choices of the running total are consistent of which none lies within the other, their
-- union is offered, and in it something counts as delivered to the running total, as notified of it and as sent by it.
pub record ChoicesUnite : Type 0 where
  pub one : IsConsistent totals output_failed (IsCandidate totals output_failed (is_failed output_failed) ever) (two_kept_noting (until 0))
  pub other : IsConsistent totals output_failed (IsCandidate totals output_failed (is_failed output_failed) ever) epoch_kept
  pub one_not_within : IsChoiceWithin totals.flow (two_kept_noting (until 0)) epoch_kept → ⊥
  pub other_not_within : IsChoiceWithin totals.flow epoch_kept (two_kept_noting (until 0)) → ⊥
  pub union : IsUnionOfChoices totals (two_kept_noting (until 0)) epoch_kept (two_kept_noting (until 1))
  pub offered : (p : ℕ) → p < length total_flow.nodes
      → IsCandidate totals output_failed (is_failed output_failed) ever p (cut_of (two_kept_noting (until 1)) p)
  pub checkpoints : way_of total_flow total_node ≡ Checkpoints
  pub delivered : (covers_in totals output_failed).delivered src_to_run (At (until 2)) (1 ∷ []) ≡ true
  pub notified : (covers_in totals output_failed).notified total_node (At (until 2)) (1 ∷ []) ≡ true
  pub discarded : (covers_in totals output_failed).discarded run_to_out (At (until 2)) (1 ∷ []) ≡ true

-- Not each consistent choice is the largest: what is kept offers another one too.
pub record LessIsConsistent : Type 0 where
  pub consistent : IsConsistent totals output_failed (IsCandidate totals output_failed (is_failed output_failed) kept) (two_kept_noting (until 0))
  pub other : two_kept_noting (until 0) ≢ two_epochs_kept

-- the node of the loop that counts up
abbrev pub inc : ℕ
inc = 3

-- the first round of each epoch
abbrev pub first_rounds : Front
first_rounds = round 0 1 ∷ []

-- three rounds of epoch 0, and the first round of each epoch
abbrev pub both_rounds : Front
both_rounds = round 0 3 ∷ round 1 1 ∷ []

-- what is in one or the other
abbrev pub joined_rounds : Frontier
joined_rounds = join (node_frontier loop_counts_up inc counted_rounds) (node_frontier loop_counts_up inc first_rounds)

-- In the loop two cuts of a node have a union that is neither of them, and what counts as delivered and as sent inside it is
-- not all inside one of them.
pub record CutsUnite : Type 0 where
  pub union : IsUnionOfCuts two_batches inc (At counted_rounds) (At first_rounds) (At both_rounds)
  pub one_not_within : IsCutWithin two_batches.flow inc (At counted_rounds) (At first_rounds) → ⊥
  pub other_not_within : IsCutWithin two_batches.flow inc (At first_rounds) (At counted_rounds) → ⊥
  pub delivered_of_one : (covers_in two_batches counting_failed).delivered 2 (At both_rounds) (round 0 2) ≡ true
  pub delivered_of_other : (covers_in two_batches counting_failed).delivered 2 (At both_rounds) (round 1 0) ≡ true
  pub discarded_of_one : (covers_in two_batches counting_failed).discarded 3 (At both_rounds) (round 0 2) ≡ true
  pub discarded_of_other : (covers_in two_batches counting_failed).discarded 3 (At both_rounds) (round 1 0) ≡ true

-- What is in one of the two frontiers or in the other is a frontier, which is given without a list.
abbrev pub JoinIsAFrontier : Type 0
JoinIsAFrontier = IsFrontier (bounds_of loop_counts_up inc) joined_rounds

-- ---- witnesses for the laws of deliveries: what they ask holds of histories of the running total and of a sequence

-- what is complete once epochs 0 and 1 came through
abbrev pub complete_two : ℕ → Frontier
complete_two p = node_frontier total_flow p (front_of (alike 2) p)

-- An epoch in which a rec was delivered is closed for the running total, and the history goes on with another delivery to it.
pub record AnEpochIsClosed : Type 0 where
  pub closed : IsClosedFor totals two_epochs total_node (1 ∷ [])
  pub goes_on : IsLegal totals (next_epochs ++ two_epochs)
  pub delivered_there : recs_at (1 ∷ []) (delivered_messages two_epochs src_to_run) ≡ pair 1 10 ∷ []
  pub bag : bag_at totals_denoted src_to_run (1 ∷ []) ≡ pair 1 10 ∷ []
  pub delivered_later : delivered_messages (next_epochs ++ two_epochs) src_to_run ≡ valued_at_epoch 2 5 ∷ valued_at_epoch 1 10 ∷ []

-- The same history goes on after a notification of the running total with a delivery to it and a notification of it.
abbrev pub NotifiedAndGoesOn : Type 0
NotifiedAndGoesOn =
    IsLegal totals
    ((Injected src 3 ∷ Notified total_node (2 ∷ []) ∷ Delivered src_to_run (valued_at_epoch 2 5) ∷ Injected src 2 ∷ Delivered run_to_out (valued_at_epoch 1 10) ∷ [])
    ++ Notified total_node (1 ∷ []) ∷ Delivered src_to_run (valued_at_epoch 1 10) ∷ Injected src 1 ∷ Injected src 0 ∷ [])

-- Once two epochs came through, a family is admissible that holds both, and the same was sent, delivered and denoted there;
-- an enabled event is outside.
pub record TwoEpochsAreComplete : Type 0 where
  pub legal : IsLegal totals two_epochs
  pub admissible : IsAdmissible totals two_epochs complete_two
  pub inside : complete_two out (1 ∷ []) ≡ true
  pub inside_phi : phi totals two_epochs run_to_out (complete_two total_node) (1 ∷ []) ≡ true
  pub was_sent : recs_at (1 ∷ []) (sent_messages totals two_epochs run_to_out) ≡ pair 1 10 ∷ []
  pub was_delivered : recs_at (1 ∷ []) (delivered_messages two_epochs run_to_out) ≡ pair 1 10 ∷ []
  pub bag : bag_at totals_denoted run_to_out (1 ∷ []) ≡ pair 1 10 ∷ []
  pub enabled : IsEnabled totals two_epochs (Injected src 2)

-- Later one more rec was sent than was delivered, as often as it is denoted.
pub record OneIsOnItsWay : Type 0 where
  pub legal : IsLegal totals (next_epochs ++ two_epochs)
  pub denoted : how_often (pair 1 15) (bag_at totals_denoted run_to_out (2 ∷ [])) ≡ 1
  pub sent_once : how_often (pair 1 15) (recs_at (2 ∷ []) (sent_messages totals (next_epochs ++ two_epochs) run_to_out)) ≡ 1
  pub not_delivered : how_often (pair 1 15) (recs_at (2 ∷ []) (delivered_messages (next_epochs ++ two_epochs) run_to_out)) ≡ 0

-- ---- witnesses for the laws of filtering: what they ask holds of recoveries of the running total, the loop and a sequence

-- what each node of the running total keeps in the recovery
abbrev pub kept_totals : ℕ → Frontier
kept_totals p = kept_of totals.flow two_epochs_kept p

-- and of which notifications
abbrev pub noted_totals : ℕ → Frontier
noted_totals p = notice_of totals.flow two_epochs_kept p

-- The recovery of the running total keeps what is consistent, deliveries and a notification among it, and filters out others.
-- All that was settled had come. The running total is cut within what it settled, and of what the input sent, which it cannot
-- send again, a message was pending.
pub record TotalsAreFiltered : Type 0 where
  pub legal : IsLegal totals (events output_failed.history)
  pub consistently : IsConsistentlyKept totals (events output_failed.history) kept_totals noted_totals
  pub inclusions : MeetsInclusions totals output_failed two_epochs_kept
  pub remains : events (filtered_history totals two_epochs_kept output_failed.history) ≡ two_epochs
  pub full : IsFull totals output_failed
  pub cut : IsCutWithinSettled totals output_failed two_epochs_kept total_node
  pub discarded : LiesInReceiver total_flow (covers_in totals output_failed) two_epochs_kept src_to_run
  pub no_log : can_resend (policy_of total_flow src) ≡ false
  pub was_pending : pending_messages totals (events output_failed.history) src_to_run ≡ valued_at_epoch 3 1 ∷ []

-- what each node of the loop keeps in its recovery
abbrev pub kept_rounds : ℕ → Frontier
kept_rounds p = kept_of two_batches.flow restored p

-- two rounds of epoch 0
abbrev pub two_rounds : Frontier
two_rounds = node_frontier loop_counts_up (sender loop_counts_up 3) (round 0 2 ∷ round 1 0 ∷ [])

-- The recovery of the loop filters out a delivery. On an edge to a node that stays as it is one
-- message of two stays pending, and on the edge to the node that is cut one more is pending than before.
pub record LoopIsFiltered : Type 0 where
  pub well_formed : IsWellFormed loop_counts_up
  pub epochs : HasEpochs two_batches
  pub legal : IsLegal two_batches under_way
  pub frontiers : AreFrontiers loop_counts_up kept_rounds
  pub come : ComeFromKept two_batches under_way kept_rounds
  pub remains : kept_events loop_counts_up kept_rounds under_way ≡ without_the_second
  pub inclusions : MeetsInclusions two_batches counting_failed restored
  pub full : IsFull two_batches counting_failed
  pub present : cut_of restored (receiver loop_counts_up 3) ≡ Present
  pub two_were_pending : pending_messages two_batches under_way 3
      ≡ message (round 0 2) (pair 1 3) (round 0 2) ∷ message (round 1 0) (pair 2 1) (round 1 0) ∷ []
  pub one_is_pending : pending_messages two_batches without_the_second 3 ≡ message (round 0 2) (pair 1 3) (round 0 2) ∷ []
  pub fewer : Within two_rounds (kept_rounds (sender loop_counts_up 3))
  pub sent_from_fewer : messages_from two_rounds (sent_messages two_batches under_way 3)
      ≡ message (round 0 1) (pair 1 2) (round 0 1) ∷ message (round 0 0) (pair 1 1) (round 0 0) ∷ []
  pub cut : IsCutWithinSettled two_batches counting_failed restored (receiver loop_counts_up 2)
  pub one_was_pending : pending_messages two_batches under_way 2 ≡ message (round 1 0) (pair 3 0) (round 1 0) ∷ []
  pub two_are_pending : pending_messages two_batches without_the_second 2
      ≡ message (round 1 0) (pair 3 0) (round 1 0) ∷ message (round 1 0) (pair 2 0) (round 1 0) ∷ []

-- the input and the sequence keep epoch 0, and the others all
abbrev pub kept_epoch : ℕ → Frontier
kept_epoch p = node_frontier regroup_by_three p (front_of (until 1 ∷ until 1 ∷ [] ∷ [] ∷ []) p)

-- Of a history in which a sequence numbered three recs the first two numbers come from what it keeps, and nothing else is sent
-- by the kept events.
pub record SequenceIsFiltered : Type 0 where
  pub well_formed : IsWellFormed regroup_by_three
  pub epochs : HasEpochs numbers
  pub legal : IsLegal numbers numbered_both
  pub frontiers : AreFrontiers regroup_by_three kept_epoch
  pub come : ComeFromKept numbers numbered_both kept_epoch
  pub remains : kept_events regroup_by_three kept_epoch numbered_both ≡ numbered_epoch
  pub sent_before : sent_messages numbers numbered_both 1 ≡ value_at 2 3 1 ∷ value_at 0 1 0 ∷ value_at 1 2 0 ∷ []
  pub sent_by_kept : sent_messages numbers numbered_epoch 1 ≡ value_at 0 1 0 ∷ value_at 1 2 0 ∷ []
  pub inside : phi numbers numbered_both 1 (kept_epoch 1) (1 ∷ []) ≡ true
  pub outside : phi numbers numbered_both 1 (kept_epoch 1) (2 ∷ []) ≡ false

-- In that history the sequence was notified twice, two of its numbers were delivered on a numbered edge, and the third is
-- pending; before the two were delivered both were pending.
pub record NumbersAreDelivered : Type 0 where
  pub legal : IsLegal numbers numbered_both
  pub sequence : SendsByCount (kind_of regroup_by_three 1)
  pub numbered : is_numbered regroup_by_three 1 ≡ true
  pub two : delivered_messages numbered_both 1 ≡ value_at 1 2 0 ∷ value_at 0 1 0 ∷ []
  pub third : pending_messages numbers numbered_both 1 ≡ value_at 2 3 1 ∷ []
  pub before : pending_messages numbers (drop 5 numbered_both) 1 ≡ value_at 0 1 0 ∷ value_at 1 2 0 ∷ []

-- ---- witnesses for the laws of replay, of thinned stamps and of steps that are taken by themselves

-- Of epochs 0 and 1 the running total did the same in the history of the failure as in that after the recovery.
abbrev pub TwoEpochsAreTheSame : Type 0
TwoEpochsAreTheSame = IsSamePart totals (next_epochs ++ two_epochs) two_epochs total_node (node_frontier total_flow total_node (until 2))

-- the epochs 0 to 3
abbrev pub four_epochs : List Stamp
four_epochs = (0 ∷ []) ∷ (1 ∷ []) ∷ (2 ∷ []) ∷ (3 ∷ []) ∷ []

-- Without the first one they are thinned inside the first two, which lie within the first three.
pub record EpochsAreThinned : Type 0 where
  pub thinned : IsThinned (node_frontier total_flow total_node (until 2)) four_epochs (drop 1 four_epochs)
  pub within : Within (node_frontier total_flow total_node (until 2)) (node_frontier total_flow total_node (until 3))

-- the state of the failure once the latest checkpoint is acknowledged
abbrev pub all_written : Machine
all_written = record output_failed {
  writes =
      record { node = total_node; written = checkpoint (until 1) (alike 0); base = None; depth = 0; stage = acknowledged }
      ∷ record { node = total_node; written = checkpoint (until 2) (alike 0); base = Some (until 1); depth = 1; stage = acknowledged }
      ∷ record { node = total_node; written = checkpoint (until 3) (alike 2); base = Some (until 2); depth = 2; stage = acknowledged }
      ∷ [];
}

-- the state once epoch 3 came to the running total too
abbrev pub last_taken : Machine
last_taken = with_event totals all_written (Delivered src_to_run (valued_at_epoch 3 1))

-- the steps to it
abbrev pub steps_by_themselves : List Step
steps_by_themselves = Persist ∷ Deliver src_to_run None ∷ []

-- From the state of the failure `auto` acknowledges the checkpoint in flight first, and then delivers the message that is pending.
pub record TwoStepsAreTaken : Type 0 where
  pub one : IsAutoRun totals output_failed 1 (Persist ∷ []) all_written
  pub other : IsAutoRun totals all_written 1 (Deliver src_to_run None ∷ []) last_taken
  pub both : IsAutoRun totals output_failed 2 steps_by_themselves last_taken

-- the state once all nodes failed before anything happened
abbrev pub all_failed : Machine
all_failed = record (first_state totals) { failed = true ∷ true ∷ true ∷ [] }

-- From there `auto` takes no step, since none is enabled.
pub record NoStepIsTaken : Type 0 where
  pub reached : Run totals (first_state totals) (Fail (src ∷ total_node ∷ out ∷ []) ∷ []) (did silent ∷ []) all_failed
  pub none : IsAutoRun totals all_failed 1 [] all_failed
