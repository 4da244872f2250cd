-- What the laws say of their witnesses: each field is a law, asked of the state, history, choice or frontier that meets what it asks.
use Rattle.std.specs.List.{AllByRecursion}
use Rattle.std.specs.Prelude.{Bool, List, [], false, true, ℕ, ◌&&◌, ◌++◌, ◌==◌, ◌∷◌, ◌≡◌, ◌≢◌, ◌≤◌, drop, filter, length, map, ◌↔◌, Some, None, zero, suc, ◌<◌, ◌⊎◌}
use Rattle.fw_bag.specs.Bag.{how_often}
use Rattle.fw_bag.specs.Keyed.{sorted_recs}
use Rattle.fw_bag.specs.declared.rec.Rec.{Rec}
use Rattle.fw_time.specs.Stamp.{in_domain, leq, Stamp, same}
use Rattle.fw_frontier.specs.Front.{Front, IsFrontOf}
use Rattle.fw_frontier.specs.Frontier.{Frontier, Within, cover, join, IsFrontier, everything, meet, nothing}
use Rattle.fw_flow.specs.Dataflow.{bounds_of, bounds_of_edge, receiver, sender, kind_of, send_stamp, node_frontier}
use Rattle.fw_flow.specs.Message.{messages_less}
use Rattle.fw_flow.specs.NodeFunction.{event_node, event_stamp, sends, sent_by}
use Rattle.fw_flow.specs.Projection.{events_at, phi, IsSenderFrontier, all_inside, phi_by_count, psi, psi_back}
use Rattle.fw_flow.specs.declared.choice.Choice.{Choice}
use Rattle.fw_flow.specs.declared.choice.Cut.TheVariants.{At}
use Rattle.fw_flow.specs.declared.event.Event.{Event}
use Rattle.fw_flow.specs.declared.event.Event.TheVariants.{Deliver as Delivered, Inject as Injected, Deliver}
use Rattle.fw_flow.specs.declared.event.Message.{Message}
use Rattle.fw_flow.specs.declared.step.Step.{Step}
use Rattle.fw_flow.specs.declared.step.Step.TheVariants.{Collect, Recover}
use Rattle.fw_model.specs.Acknowledgements.{IsDenoted, Shows, first_stamps, stamps_acknowledged}
use Rattle.fw_model.specs.Auto.{IsAutoRun}
use Rattle.fw_model.specs.Choice.{IsCandidate, IsChoiceWithin, IsConsistent, IsCutWithin, IsLargest, View, cut_of, ever, filtered_history, kept, kept_of, until}
use Rattle.fw_model.specs.Choosing.{AreCheckpointsChains, CanChoose, low_choice}
use Rattle.fw_model.specs.Covers.{covers_in}
use Rattle.fw_model.specs.Denotation.{bag_at, AreInOrder, AreNumberedFrom, Family, IsDenotation, rounds}
use Rattle.fw_model.specs.Filtering.{HaveKeptCauses, MeetsInclusions, events_inside, kept_events, messages_from, messages_inside, messages_outside}
use Rattle.fw_model.specs.History.{AreEventsInDomain, IsAdmissible, IsClosedFor, IsComplete, IsLegal, IsNotifiable, delivered_messages, injected_count, message_on, pending_messages, recs_at, sent_messages}
use Rattle.fw_model.specs.LawsOfInjections.{AreEpochsInOrder, epochs_injected}
use Rattle.fw_model.specs.LawsOfProgress.{IsNotifiableBy, IsStuck}
use Rattle.fw_model.specs.LawsOfPending.{GoesOn, IsOnlyDeliverable, sent_on}
use Rattle.fw_model.specs.LawsOfReplay.{not_given_up, replayed_events}
use Rattle.fw_model.specs.LawsOfSettled.{LiesOutside}
use Rattle.fw_model.specs.LawsOfWrites.{AreLoggedInOrder, IsLoggedFor}
use Rattle.fw_model.specs.Machine.{Machine, events, first_state, is_failed, SerialEvent, Write, acknowledged, checkpoint, collected, front_of, no_stamps}
use Rattle.fw_model.specs.Order.{AreNumberedInOrder, IsNotifiedInOrder}
use Rattle.fw_model.specs.Sending.{ComesFromInside, FollowsHistory, IsSentFrom, SendsAbove, SendsByCount, SendsByStamp, SendsWithin}
use Rattle.fw_model.specs.Settled.{IsDenotedInside, IsFull}
use Rattle.fw_model.specs.SortedMessages.{sorted_messages, with_messages}
use Rattle.fw_model.specs.Steps.{Effect, GrowsTo, IsTheNext, Outcome, Run, StepsTo, cuts, did, front_of_cut, is_in_flight, newest_checkpoint, is_forgotten}
use Rattle.fw_model.specs.Thinned.{ThinnedStampsCoverTheSame}
use Rattle.fw_model.specs.Unions.{IsUnionOfChoices, IsUnion}
use Rattle.fw_examples.specs.Flows.{loop_counts_up, pair, regroup_by_three, two_batches, out, src, big, big_to_out, numbered_both, numbers, numbered_epoch, src_to_big, value_at}
use Rattle.fw_examples.specs.Loop.{counted_rounds, counting_failed, restored, under_way, message, round, fed_back_edge}
use Rattle.fw_examples.specs.RunningTotal.{valued_at_epoch, come_back, epoch_kept, next_epochs, outcomes_through_recovery, outcomes_to_failure, outcomes_without_failure, output_failed, total_node, run_to_out, src_to_run, steps_to_failure, total_flow, totals, totals_denoted, two_epochs, two_epochs_kept, two_kept_noting}
use Rattle.fw_examples.specs.Witnesses.{both_rounds, complete_then, complete_two, first_rounds, inc, joined_rounds, kept_epoch, kept_rounds, two_rounds, all_failed, four_epochs, last_taken, steps_by_themselves}
use Rattle.fw_model.specs.Resending.{HoldsWhatIsSentAgain, LogHoldsWhatIsSentAgain, at_receiver, messages_to_resend}
use Rattle.fw_model.specs.Writes.{Ascends, CountsWritten, HasOne, IsCheckpointOf, IsKeptWithin, IsLoggedOnce, IsWrittenAsAsked, MayKeepNothingIfCollected, NothingComesInside, not_collected}
use Rattle.fw_examples.specs.Logs.{both_come_back, checkpoints_logged, event_collected, events_logged, log_kept, none_collected, one_came_through, second_message, total_logged}
use Rattle.fw_flow.specs.WholeBags.{Timed, in_order, outputs_of, timed_where}
use Rattle.fw_model.specs.Measure.{Measure, enough_rounds}
use Rattle.fw_model.specs.LawsOfAuto as auto
use Rattle.fw_model.specs.LawsOfChains as chains
use Rattle.fw_model.specs.LawsOfChains.{IsChain, links_of}
use Rattle.fw_model.specs.LawsOfCheckpointFronts as fronts
use Rattle.fw_model.specs.LawsOfChoices as choices
use Rattle.fw_model.specs.LawsOfChoosing as choosing
use Rattle.fw_model.specs.LawsOfCompleteFrontiers as complete
use Rattle.fw_model.specs.LawsOfDeliveries as deliveries
use Rattle.fw_model.specs.LawsOfDenotation as denotation
use Rattle.fw_model.specs.LawsOfExistence as existence
use Rattle.fw_model.specs.LawsOfFiltering as filtering
use Rattle.fw_model.specs.LawsOfInjections as injections
use Rattle.fw_model.specs.LawsOfLegalHistories as legal
use Rattle.fw_model.specs.LawsOfPending as pending
use Rattle.fw_model.specs.LawsOfProgress as progress
use Rattle.fw_model.specs.LawsOfProjections as projections
use Rattle.fw_model.specs.LawsOfRecoveries as recoveries
use Rattle.fw_model.specs.LawsOfReplay as replay
use Rattle.fw_model.specs.LawsOfRestoring as restoring
use Rattle.fw_model.specs.LawsOfRuns as runs
use Rattle.fw_model.specs.LawsOfSending as sending
use Rattle.fw_model.specs.LawsOfSettled as settled
use Rattle.fw_model.specs.LawsOfSteps as steps
use Rattle.fw_model.specs.LawsOfWrites as writes

-- the laws of runs and of recoveries, of the runs of the running total
pub record RunsApply : Type 0 where
  pub goes_on : runs.RunsGoOn
      → Run totals (first_state totals) (steps_to_failure ++ Recover ∷ []) (outcomes_to_failure ++ did (cuts two_epochs_kept) ∷ []) come_back
  pub legal : runs.RunsStayLegal → IsLegal totals (events output_failed.history)
  pub in_order : runs.AcknowledgementsAreInOrder → stamps_acknowledged out outcomes_through_recovery ≡ first_stamps 3
  pub step : recoveries.StepsKeepHistoriesLegal → IsLegal totals (events come_back.history)
  pub through : recoveries.RunsStayLegalThroughRecoveries → IsLegal totals (events come_back.history)
  pub candidates : recoveries.CandidatesLieWithinSettled
      → Within (node_frontier total_flow total_node (until 2)) (node_frontier total_flow total_node (until 3))
  pub settled : recoveries.SettledStaysDenoted → IsDenotedInside totals totals_denoted output_failed
  pub full : recoveries.DenotedIsFull → IsFull totals output_failed
  pub shown : recoveries.AcknowledgementsShowDenotationThroughRecoveries
      → AllByRecursion (IsDenoted totals totals_denoted) outcomes_through_recovery

-- the laws of choosing, of the state of the failure, and of runs with a failure and without one
pub record ChoosingApplies : Type 0 where
  pub low : choosing.LowWatermarkIsConsistent
      → (notices : List Front) × ((lost : ℕ → Bool) (view : View)
      → IsConsistent totals output_failed (IsCandidate totals output_failed lost view) (low_choice output_failed notices))
  pub chains : choosing.CheckpointsAreChains → (lost : ℕ → Bool) (view : View) → AreCheckpointsChains totals output_failed lost view
  pub choice : choosing.RecoveryHasAChoice → (lost : ℕ → Bool) → CanChoose totals output_failed lost
  pub recovered : choosing.FailedNodesAreRecovered → (next : Machine) × (choice : Choice) × StepsTo totals output_failed Recover next (did (cuts choice))
  pub next : choosing.ReachedStatesHaveOneNextState → (step : Step)
      → (next : Machine) × (outcome : Outcome) × IsTheNext totals output_failed step next outcome
  pub holds : choosing.LargestChoiceHoldsLowWatermark → IsCutWithin totals.flow total_node (At (until 2)) (cut_of two_epochs_kept total_node)
  pub rises : choosing.LowWatermarkNeverFalls
      → Within (node_frontier total_flow total_node (until 0)) (node_frontier total_flow total_node (until 2))
  pub ever_largest : choosing.LargestOfKeptIsLargestOfEver
      → IsLargest totals output_failed (IsCandidate totals output_failed (is_failed output_failed) ever) two_epochs_kept
  pub one_bag : choosing.TwoRunsShowOneBag → (recs : List Rec) → Shows out (2 ∷ []) recs outcomes_without_failure
      → recs ≡ pair 1 15 ∷ []

-- the laws of existence and of steps, of the state of the failure
pub record StepsApply : Type 0 where
  pub front : existence.FrontierHasFront → (os : Front) × IsFrontOf (bounds_of loop_counts_up inc) os joined_rounds
  pub complete_exists : existence.CompleteExists → (done : ℕ → Frontier) × IsComplete totals (events output_failed.history) done
  pub only_complete : existence.CompleteIsTheOnlyOne → (done : ℕ → Frontier) → IsComplete totals (events output_failed.history) done
      → done ≡ complete_then
  pub grows : existence.SettledCanGrow → (settled : List Front) × GrowsTo totals output_failed complete_then settled
  pub largest : existence.LargestChoiceExists
      → (largest : Choice) × IsLargest totals output_failed (IsCandidate totals output_failed (is_failed output_failed) ever) largest
  pub one_next : steps.OneNextState → (other : Machine) (outcome : Outcome) → StepsTo totals output_failed Recover other outcome
      → (come_back ≡ other) × (did (cuts two_epochs_kept) ≡ outcome)
  pub some_next : steps.SomeNextState → (next : Machine) × (outcome : Outcome) × StepsTo totals output_failed Collect next outcome
  pub exactly_one_next : steps.ExactlyOneNextState
      → (next : Machine) × (outcome : Outcome) × IsTheNext totals output_failed Collect next outcome

-- the laws of choices, of two choices of the running total, and of two cuts in the loop
pub record ChoicesApply : Type 0 where
  pub one : choices.LargestChoiceIsOne → (other : Choice)
      → IsLargest totals output_failed (IsCandidate totals output_failed (is_failed output_failed) kept) other → two_epochs_kept ≡ other
  pub have_union : choices.ConsistentChoicesHaveUnion
      → (union : Choice) × IsUnionOfChoices totals (two_kept_noting (until 0)) epoch_kept union
  pub each_within : choices.EachLiesWithinUnion
      → IsChoiceWithin totals.flow (two_kept_noting (until 0)) (two_kept_noting (until 1)) × IsChoiceWithin totals.flow epoch_kept (two_kept_noting (until 1))
  pub candidate : choices.UnionOfCandidatesIsCandidate
      → IsCandidate totals output_failed (is_failed output_failed) ever total_node (At (until 2))
  pub delivered : choices.DeliveredOfUnion
      → Within ((covers_in two_batches counting_failed).delivered 2 (At both_rounds))
      (join ((covers_in two_batches counting_failed).delivered 2 (At counted_rounds)) ((covers_in two_batches counting_failed).delivered 2 (At first_rounds)))
  pub notified : choices.NotifiedOfUnion
      → Within ((covers_in totals output_failed).notified total_node (At (until 2)))
      (join ((covers_in totals output_failed).notified total_node (At (until 2))) ((covers_in totals output_failed).notified total_node (At (until 1))))
  pub discarded : choices.DiscardedOfUnion
      → Within ((covers_in two_batches counting_failed).discarded 3 (At both_rounds))
      (join ((covers_in two_batches counting_failed).discarded 3 (At counted_rounds)) ((covers_in two_batches counting_failed).discarded 3 (At first_rounds)))
  pub consistent : choices.UnionOfConsistentIsConsistent
      → IsConsistent totals output_failed (IsCandidate totals output_failed (is_failed output_failed) ever) (two_kept_noting (until 1))

-- the laws of deliveries and of complete frontiers, of the histories of the running total, and of the sequence
pub record DeliveriesApply : Type 0 where
  pub stays_closed : deliveries.ClosedStampsStayClosed → IsClosedFor totals (next_epochs ++ two_epochs) total_node (1 ∷ [])
  pub final : deliveries.DeliveredUpToClosedIsFinal
      → recs_at (1 ∷ []) (delivered_messages (next_epochs ++ two_epochs) src_to_run) ≡ recs_at (1 ∷ []) (delivered_messages two_epochs src_to_run)
  pub denoted_up_to : deliveries.DeliveredUpToClosedIsDenoted
      → sorted_recs (recs_at (1 ∷ []) (delivered_messages two_epochs src_to_run)) ≡ bag_at totals_denoted src_to_run (1 ∷ [])
  pub come_last : deliveries.NotificationsComeLast
      → AllByRecursion (λ v. (event_node total_flow v == total_node && leq (event_stamp v) (1 ∷ [])) ≡ false) (next_epochs ++ Delivered run_to_out (valued_at_epoch 1 10) ∷ [])
  pub ascend : deliveries.NumberedDeliveriesAscend → AreNumberedInOrder (delivered_messages numbered_both 1)
  pub sent_denoted : deliveries.SentInsidePhiIsDenoted
      → sorted_recs (recs_at (1 ∷ []) (sent_messages totals two_epochs run_to_out)) ≡ bag_at totals_denoted run_to_out (1 ∷ [])
  pub delivered_denoted : deliveries.DeliveredInsideCompleteIsDenoted
      → sorted_recs (recs_at (1 ∷ []) (delivered_messages two_epochs run_to_out)) ≡ bag_at totals_denoted run_to_out (1 ∷ [])
  pub delivered_final : deliveries.DeliveredInsideCompleteIsFinal
      → recs_at (1 ∷ []) (delivered_messages (next_epochs ++ two_epochs) run_to_out) ≡ recs_at (1 ∷ []) (delivered_messages two_epochs run_to_out)
  pub sent_sub_bag : deliveries.SentIsSubBagOfDenotation
      → how_often (pair 1 15) (recs_at (2 ∷ []) (sent_messages totals (next_epochs ++ two_epochs) run_to_out))
      ≤ how_often (pair 1 15) (bag_at totals_denoted run_to_out (2 ∷ []))
  pub delivered_sub_bag : deliveries.DeliveredIsSubBagOfDenotation
      → how_often (pair 1 15) (recs_at (2 ∷ []) (delivered_messages (next_epochs ++ two_epochs) run_to_out))
      ≤ how_often (pair 1 15) (bag_at totals_denoted run_to_out (2 ∷ []))
  pub enabled_outside : complete.EnabledIsOutside → complete_two src (2 ∷ []) ≡ false
  pub stays_admissible : complete.AdmissibleStaysAdmissible → IsAdmissible totals (Injected src 2 ∷ two_epochs) complete_two

-- the laws of legal histories, of the history of the running total and of that of the sequence
pub record LegalHistoriesApply : Type 0 where
  pub events_in_domain : legal.LegalEventsAreInDomain → (p : ℕ) → AreEventsInDomain total_flow (next_epochs ++ two_epochs) p
  pub messages_in_domain : legal.LegalMessagesAreInDomain → (e : ℕ)
      → AllByRecursion (λ (m : Message). in_domain (bounds_of_edge total_flow e) m.at ≡ true) (sent_messages totals (next_epochs ++ two_epochs) e)
  pub inputs_inject : legal.OnlyInputsInject → injected_count total_node (next_epochs ++ two_epochs) ≡ 0
  pub notified_in_order : complete.SequencesAreNotifiedInOrder → IsNotifiedInOrder regroup_by_three numbered_both 1
  pub from_inside : complete.LegalInsidePhiComesFromInside → ComesFromInside numbers numbered_both 1 (kept_epoch 1)

-- the laws of filtering, of the recoveries of the running total and of the loop, and of the sequence
pub record FilteringApplies : Type 0 where
  pub send_the_same : filtering.KeptEventsSendTheSame
      → sent_messages numbers (kept_events regroup_by_three kept_epoch numbered_both) 1
      ≡ messages_from (kept_epoch (sender regroup_by_three 1)) (sent_messages numbers numbered_both 1)
  pub send_the_same_from_within : filtering.KeptEventsSendTheSameFromWithin
      → messages_from two_rounds (sent_messages two_batches (kept_events loop_counts_up kept_rounds under_way) 3)
      ≡ messages_from two_rounds (sent_messages two_batches under_way 3)
  pub deliver_the_same : filtering.KeptEventsDeliverTheSame
      → delivered_messages (kept_events loop_counts_up kept_rounds under_way) 2
      ≡ messages_inside (kept_rounds (receiver loop_counts_up 2)) (delivered_messages under_way 2)
  pub phi_of_kept : filtering.PhiOfKeptEvents
      → phi numbers (kept_events regroup_by_three kept_epoch numbered_both) 1 (kept_epoch 1) (1 ∷ [])
      ≡ phi numbers numbered_both 1 (kept_epoch 1) (1 ∷ [])
  pub kept_causes : filtering.KeptDeliveriesHaveKeptCauses → HaveKeptCauses loop_counts_up under_way kept_rounds
  pub legal : filtering.KeptEventsAreLegal
      → IsLegal totals (kept_events total_flow (kept_of totals.flow two_epochs_kept) (next_epochs ++ two_epochs))
  pub inclusions : filtering.ConsistentMeetsInclusions → MeetsInclusions totals output_failed two_epochs_kept
  pub filtered_is_legal : filtering.FilteredHistoryIsLegal → IsLegal totals (events (filtered_history totals two_epochs_kept output_failed.history))
  pub at_kept : filtering.PendingAtKeptStamps
      → messages_inside (kept_rounds (receiver loop_counts_up 3)) (pending_messages two_batches (kept_events loop_counts_up kept_rounds under_way) 3)
      ≡ messages_inside (kept_rounds (receiver loop_counts_up 3)) (messages_from (kept_rounds (sender loop_counts_up 3)) (pending_messages two_batches under_way 3))
  pub at_others : filtering.PendingAtOtherStamps
      → messages_outside (kept_rounds (receiver loop_counts_up 2)) (pending_messages two_batches (kept_events loop_counts_up kept_rounds under_way) 2)
      ≡ messages_outside (kept_rounds (receiver loop_counts_up 2)) (messages_from (kept_rounds (sender loop_counts_up 2)) (sent_messages two_batches under_way 2))
  pub for_present : filtering.PendingForPresent
      → pending_messages two_batches (events (filtered_history two_batches restored counting_failed.history)) 3
      ≡ messages_from (kept_rounds (sender loop_counts_up 3)) (pending_messages two_batches (events counting_failed.history) 3)
  pub for_cut : filtering.PendingForCut
      → pending_messages two_batches (events (filtered_history two_batches restored counting_failed.history)) 2
      ≡ messages_outside (kept_rounds (receiver loop_counts_up 2))
      (messages_from (kept_rounds (sender loop_counts_up 2)) (sent_messages two_batches (events counting_failed.history) 2))
  pub without_log : filtering.NothingPendingWithoutLog
      → pending_messages totals (events (filtered_history totals two_epochs_kept output_failed.history)) src_to_run ≡ []

-- ---- what the laws of restoring say

-- the laws of restoring, of the state of the failure, in which two checkpoints are acknowledged and one is in flight, and of the
-- recovery that keeps two epochs
pub record RestoringApplies : Type 0 where
  pub stay_true : restoring.CheckpointsStayTrue
      → AllByRecursion (λ (write : Write). CountsWritten totals output_failed come_back write.node write.written) come_back.writes
  pub as_asked : restoring.CheckpointsAreAsTheyWereAsked
      → AllByRecursion (λ (write : Write). IsWrittenAsAsked totals output_failed write.node write.written) output_failed.writes
  pub ascend : restoring.CheckpointsAscend → Ascends totals output_failed.settled total_node (until 1) (drop 1 output_failed.writes)
  pub nothing_inside : restoring.NothingComesInsideCheckpoints
      → AllByRecursion (λ (write : Write). NothingComesInside totals output_failed write.node write.written) output_failed.writes
  pub at_cut : restoring.CheckpointsAtCutsAreKept
      → (only : HasOne (IsCheckpointOf total_node (until 2)) output_failed.writes) × (only.one.stage ≡ acknowledged)
  pub watermarks : restoring.KeptWatermarksLieWithinToday
      → AllByRecursion (λ (write : Write). IsKeptWithin totals output_failed.low write.written) output_failed.writes
  pub cut_batch : restoring.BatchesOutsideCutsLieOutsideLow
      → node_frontier total_flow src (front_of output_failed.low src) (2 ∷ []) ≡ false
  pub batch_to_come : restoring.BatchesToComeLieOutsideLow
      → node_frontier total_flow src (front_of output_failed.low src) (4 ∷ []) ≡ false
  pub collected_below : restoring.CollectedIsWhatLiesBelow
      → AllByRecursion (λ (write : Write). (write.stage ≡ collected) ↔ (is_forgotten totals output_failed.low output_failed.history output_failed.writes write ≡ true)) output_failed.writes
  pub before : Machine
  pub two_asked : length before.writes ≡ 2
  pub forgotten : restoring.WhatIsForgottenWasAcknowledged
      → AllByRecursion (λ (write : Write). is_forgotten totals (map front_of_cut two_epochs_kept.cuts) before.history before.writes write ≡ true
      → is_in_flight write.stage ≡ false) before.writes

-- the laws of restoring, of a select that writes each event, when it fails with one of its two events collected, and of a running
-- total of whose events none is collected
pub record CollectionRestored : Type 0 where
  pub logged : restoring.EventsInsideCutsAreLogged
      → AllByRecursion (λ (v : SerialEvent). event_node events_logged.flow v.event ≡ big → node_frontier events_logged.flow big [] (event_stamp v.event) ≡ true
      → IsLoggedOnce events_logged event_collected.low big v event_collected.writes) event_collected.history
  pub never_collected : restoring.EventsThatMustBeKeptAreNeverCollected
      → AllByRecursion (MayKeepNothingIfCollected events_logged) event_collected.writes
  pub never_of_total : restoring.EventsThatMustBeKeptAreNeverCollected
      → AllByRecursion (MayKeepNothingIfCollected total_logged) none_collected.writes
  pub collected_below : restoring.CollectedIsWhatLiesBelow
      → AllByRecursion (λ (write : Write). (write.stage ≡ collected) ↔ (is_forgotten events_logged event_collected.low event_collected.history event_collected.writes write ≡ true)) event_collected.writes

-- The laws of restoring, of logs from which something is sent again: in the loop, where nothing was collected, by the node
-- where rounds meet to the node that counts up; and after a collection by a select to the output, from the log of each of its
-- events and from the log that it keeps with its checkpoint.
pub record LogsRestored : Type 0 where
  pub two_again : messages_to_resend two_batches counting_failed restored 2
      ≡ message (round 1 0) (pair 3 0) (round 1 0) ∷ message (round 1 0) (pair 2 0) (round 1 0) ∷ []
  pub logs_of_loop : restoring.LogsHoldWhatIsSentAgain
      → HoldsWhatIsSentAgain two_batches counting_failed restored counting_failed.low 2
  pub logs_of_events : restoring.LogsHoldWhatIsSentAgain
      → HoldsWhatIsSentAgain events_logged event_collected both_come_back event_collected.low big_to_out
  pub kept_logs : restoring.CheckpointLogsHoldWhatIsSentAgain
      → AllByRecursion (λ (write : Write). LogHoldsWhatIsSentAgain checkpoints_logged log_kept both_come_back write.node write.written) log_kept.writes

-- ---- what the laws of projections, of sending and of the denotation say

-- three rounds of epoch 0, at the feedback
abbrev pub counted : Frontier
counted = node_frontier loop_counts_up (sender loop_counts_up fed_back_edge) counted_rounds

-- the first round of each epoch
abbrev pub begun : Frontier
begun = node_frontier loop_counts_up (sender loop_counts_up fed_back_edge) first_rounds

-- the one first, and then always the other
abbrev pub one_or_other : ℕ → Frontier
one_or_other zero = counted
one_or_other (suc i) = begun

-- both epochs, at the sequence
abbrev pub both_epochs : Frontier
both_epochs = node_frontier regroup_by_three (sender regroup_by_three 1) (until 2)

-- the laws of projections, of the edge that is fed back, and of the edge out of the sequence
pub record ProjectionsApply : Type 0 where
  pub phi_is_frontier : projections.PhiIsFrontier
      → IsFrontier (bounds_of_edge loop_counts_up fed_back_edge) (phi two_batches under_way fed_back_edge counted)
  pub phi_is_monotone : projections.PhiIsMonotone
      → Within (phi two_batches under_way fed_back_edge (meet counted begun)) (phi two_batches under_way fed_back_edge counted)
  pub phi_by_count : projections.PhiByCountIsMonotone
      → Within (phi_by_count regroup_by_three 2 1 (kept_epoch 1)) (phi_by_count regroup_by_three 3 1 (kept_epoch 1))
  pub phi_grows : projections.PhiGrowsWithHistory → Within (phi numbers numbered_epoch 1 both_epochs) (phi numbers numbered_both 1 both_epochs)
  pub phi_ignores_history : projections.PhiIgnoresHistory → (u : Stamp)
      → phi two_batches under_way fed_back_edge counted u ≡ phi two_batches [] fed_back_edge counted u
  pub phi_of_meet : projections.PhiOfMeet → (u : Stamp)
      → phi two_batches under_way fed_back_edge (meet counted begun) u
      ≡ meet (phi two_batches under_way fed_back_edge counted) (phi two_batches under_way fed_back_edge begun) u
  pub phi_of_everything : projections.PhiOfEverything → (u : Stamp)
      → phi numbers numbered_both 1 (everything (bounds_of regroup_by_three (sender regroup_by_three 1))) u
      ≡ everything (bounds_of_edge regroup_by_three 1) u
  pub psi_is_frontier : projections.PsiIsFrontier
      → IsFrontier (bounds_of_edge loop_counts_up fed_back_edge) (psi two_batches.flow fed_back_edge counted)
  pub psi_is_monotone : projections.PsiIsMonotone
      → Within (psi two_batches.flow fed_back_edge (meet counted begun)) (psi two_batches.flow fed_back_edge counted)
  pub psi_of_union : projections.PsiOfUnion
      → IsUnion (λ i. psi two_batches.flow fed_back_edge (one_or_other i)) (psi two_batches.flow fed_back_edge (join counted begun))
  pub psi_of_join : projections.PsiOfJoin → (u : Stamp)
      → psi two_batches.flow fed_back_edge (join counted begun) u ≡ join (psi two_batches.flow fed_back_edge counted) (psi two_batches.flow fed_back_edge begun) u
  pub psi_of_nothing : projections.PsiOfNothing → (u : Stamp) → psi two_batches.flow fed_back_edge nothing u ≡ nothing u

-- the laws of sending, of the same
pub record SendingApplies : Type 0 where
  pub senders : sending.SendersOfWellFormed → (e : ℕ) → e < length loop_counts_up.edges
      → SendsByCount (kind_of loop_counts_up (sender loop_counts_up e)) ⊎ SendsByStamp loop_counts_up (kind_of loop_counts_up (sender loop_counts_up e))
  pub monotone : sending.SendStampIsMonotone
      → (v : Stamp) × (send_stamp loop_counts_up 4 (round 0 0) ≡ Some v) × (leq v (round 0 2) ≡ true)
  pub phi_by_send_stamps : sending.PhiBySendStamps
      → (phi two_batches under_way fed_back_edge counted (round 0 1) ≡ true)
      ↔ IsSentFrom (bounds_of loop_counts_up (sender loop_counts_up fed_back_edge)) (send_stamp loop_counts_up (sender loop_counts_up fed_back_edge)) counted (round 0 1)
  pub psi_by_send_stamps : sending.PsiBySendStamps
      → (psi two_batches.flow fed_back_edge counted (round 0 1) ≡ true)
      ↔ SendsAbove (send_stamp loop_counts_up (sender loop_counts_up fed_back_edge)) counted (round 0 1)
  pub psi_back_by_send_stamps : sending.PsiBackBySendStamps
      → (psi_back two_batches.flow fed_back_edge counted (round 0 1) ≡ true)
      ↔ SendsWithin (send_stamp loop_counts_up (sender loop_counts_up fed_back_edge)) counted (round 0 1)
  pub psi_back_is_largest : sending.PsiBackIsLargest
      → IsSenderFrontier loop_counts_up fed_back_edge (psi_back two_batches.flow fed_back_edge counted)
      × ((f : Frontier) → IsSenderFrontier loop_counts_up fed_back_edge f
      → Within (psi two_batches.flow fed_back_edge f) counted ↔ Within f (psi_back two_batches.flow fed_back_edge counted))
  pub sends_at : sending.SendsAtSendStamp
      → AllByRecursion (λ (m : Message). (send_stamp loop_counts_up 4 (round 0 0) ≡ Some m.at) × (m.causes ≡ round 0 0 ∷ []))
      (sends two_batches 4 [] (Deliver 3 (message (round 0 0) (pair 1 1) (round 0 0))))
  pub from_causes : sending.SendsComeFromCauses
      → AllByRecursion (sending.IsFromCauses loop_counts_up 4 (Deliver 3 (message (round 0 0) (pair 1 1) (round 0 0))))
      (sends two_batches 4 [] (Deliver 3 (message (round 0 0) (pair 1 1) (round 0 0))))
  pub sends_inside : sending.SendsAreInsidePsi
      → AllByRecursion (λ (m : Message). psi two_batches.flow fed_back_edge counted m.at ≡ true)
      (sends two_batches (sender loop_counts_up fed_back_edge) [] (Deliver 3 (message (round 0 0) (pair 1 1) (round 0 0))))
  pub sent_inside : sending.SentFromInsideIsInsidePsi
      → AllByRecursion (λ (m : Message). all_inside counted m.causes ≡ true → psi two_batches.flow fed_back_edge counted m.at ≡ true) (sent_messages two_batches under_way fed_back_edge)
  pub from_inside : sending.InsidePhiComesFromInside → ComesFromInside two_batches under_way fed_back_edge counted
  pub sequence_from_inside : sending.InsidePhiOfSequenceComesFromInside → ComesFromInside numbers numbered_both 1 (kept_epoch 1)
  pub table : sending.SentTableFollowsHistory → FollowsHistory numbers 1

-- the laws of the denotation
pub record DenotationApplies : Type 0 where
  pub measure : denotation.MeasureExists → Measure loop_counts_up
  pub decided : denotation.RecsAtStampsDecideBag → (other : List Timed) → in_order other ≡ other
      → ((t : Stamp) → timed_where (same t) (totals_denoted src_to_run) ≡ timed_where (same t) other) → totals_denoted src_to_run ≡ other
  pub depends : denotation.OutBagsDependOnLesserMeasure → Measure total_flow → (t : Stamp)
      → timed_where (same t) (outputs_of totals totals_denoted (sender total_flow src_to_run))
      ≡ timed_where (same t) (outputs_of totals (λ e. []) (sender total_flow src_to_run))
  pub only : denotation.DenotationIsTheOnlyOne → (other : Family) → IsDenotation totals other → (e : ℕ) → other e ≡ totals_denoted e
  pub exists : denotation.DenotationExists → IsDenotation two_batches (rounds two_batches (enough_rounds loop_counts_up))
  pub unchanged : denotation.UnchangedRoundIsDenotation → IsDenotation totals totals_denoted
  pub later : denotation.LaterRoundsAreTheSame → (e : ℕ) → rounds totals 9 e ≡ totals_denoted e
  pub ordered : denotation.DenotationIsInOrder → AreInOrder totals_denoted
  pub in_the_domain : denotation.DenotationIsInDomain → (e : ℕ)
      → AllByRecursion (λ (r : Timed). in_domain (bounds_of total_flow (receiver total_flow e)) r.at ≡ true) (totals_denoted e)
  pub numbered : denotation.DenotationIsNumbered → AreNumberedFrom 0 (rounds numbers 4 1)
  pub three_numbers : length (rounds numbers 4 1) ≡ 3

-- ---- what the laws of writes, of replay, of events, of thinned stamps and of `auto` say

-- the laws of writes and of the fronts of checkpoints, of the state of the failure, of the select that logs each event, and of
-- the running total that does
pub record WritesApply : Type 0 where
  pub differ : fronts.CheckpointsDiffer
      → AllByRecursion (λ (other : Write). (g : Front) (also : List Front) → other.node ≡ total_node → other.written ≡ checkpoint g also → g ≢ until 1) (drop 1 output_failed.writes)
  pub have_stamps : fronts.CheckpointsHaveStamps
      → AllByRecursion (λ (write : Write). (f : Front) (low : List Front) → write.written ≡ checkpoint f low → f ≢ no_stamps (bounds_of total_flow write.node)) output_failed.writes
  pub chained : chains.EachStandsOnTheOneBefore → IsChain None (links_of total_node output_failed.writes)
  pub newest : writes.NewestCheckpointIsKept
      → newest_checkpoint total_node (until 0) output_failed.writes ≡ newest_checkpoint total_node (until 0) (filter not_collected output_failed.writes)
  pub in_order : writes.LoggedEventsAreInOrder → AreLoggedInOrder events_logged event_collected
  pub each_logged : writes.LiveNodesLogEachEvent
      → AllByRecursion (λ (v : SerialEvent). event_node total_logged.flow v.event ≡ total_node → IsLoggedFor total_node v.serial none_collected.writes) none_collected.history

-- all, at the select that comes back with all that it took
abbrev pub all_selected : Frontier
all_selected = node_frontier events_logged.flow big []

-- the epochs at which what the select logged is not given up
abbrev pub still_needed : Frontier
still_needed = not_given_up events_logged event_collected.low big

-- the laws of replay, of the select when it comes back with one of its two events collected, and of the running total with
-- epochs 2 and 3 and without them
pub record ReplayApplies : Type 0 where
  pub one_again : replayed_events events_logged event_collected big all_selected ≡ Delivered src_to_big second_message ∷ []
  pub those_left : replay.ReplayedEventsAreThoseNotGivenUp
      → replayed_events events_logged event_collected big all_selected
      ≡ events_inside still_needed (events_inside all_selected (events_at events_logged.flow big (events event_collected.history)))
  pub send_the_same : replay.ReplayedEventsSendTheSame
      → messages_outside (at_receiver events_logged event_collected.low big_to_out) (sent_by events_logged big (replayed_events events_logged event_collected big all_selected))
      ≡ messages_outside (at_receiver events_logged event_collected.low big_to_out) (messages_from all_selected (sent_messages events_logged (events event_collected.history) big_to_out))
  pub their_part : replay.PassingEventsSendTheirPart
      → sent_by events_logged big (events_inside still_needed (events_at events_logged.flow big one_came_through))
      ≡ messages_from still_needed (sent_by events_logged big (events_at events_logged.flow big one_came_through))
  pub same_part : replay.SamePartSendsTheSame
      → messages_from (node_frontier total_flow total_node (until 2)) (sent_by totals total_node (events_at total_flow total_node two_epochs))
      ≡ messages_from (node_frontier total_flow total_node (until 2)) (sent_by totals total_node (events_at total_flow total_node (next_epochs ++ two_epochs)))

-- the latest event of the loop
abbrev pub counted_once_more : Event
counted_once_more = Delivered 2 (message (round 0 2) (pair 1 2) (round 0 2))

-- the laws of injections, of what is settled and of pending messages, of the state of the failure and its history, of the
-- history of the loop, and of the numbers of the sequence
pub record EventsApply : Type 0 where
  pub four : epochs_injected src (events output_failed.history) ≡ 3 ∷ 2 ∷ 1 ∷ 0 ∷ []
  pub in_order : injections.InjectedEpochsAreInOrder
      → AreEpochsInOrder (epochs_injected src (events output_failed.history))
      × (length (epochs_injected src (events output_failed.history)) ≡ injected_count src (events output_failed.history))
  pub leaves_two : injections.UntilLeavesThatMany
      → injected_count src (events (filtered_history totals two_epochs_kept output_failed.history)) ≡ 2
  pub outside : settled.NothingComesInsideSettled → LiesOutside totals output_failed (Delivered src_to_run (valued_at_epoch 3 1))
  pub as_sent : pending.SentIsDeliveredAndPending
      → sorted_messages (sent_messages totals (next_epochs ++ two_epochs) run_to_out)
      ≡ sorted_messages (delivered_messages (next_epochs ++ two_epochs) run_to_out ++ pending_messages totals (next_epochs ++ two_epochs) run_to_out)
  pub follows : pending.PendingFollowsEvents → (e : ℕ)
      → sorted_messages (pending_messages two_batches under_way e)
      ≡ with_messages (sent_on two_batches (drop 1 under_way) e counted_once_more)
      (messages_less (sorted_messages (pending_messages two_batches (drop 1 under_way) e)) (message_on e counted_once_more))
  pub goes_on : pending.PendingNumbersGoOn → GoesOn numbers numbered_both 1
  pub next : pending.FirstPendingIsNext → IsOnlyDeliverable numbers (drop 5 numbered_both) 1 (value_at 0 1 0)

-- the laws of progress, of the running total once two epochs came through, and in the state of the failure
pub record ProgressApplies : Type 0 where
  pub complete : progress.StuckIsComplete → IsComplete totals two_epochs complete_two
  pub others_stuck : progress.EventsLeaveOthersStuck → (p : ℕ) → p ≢ src → IsStuck totals (Injected src 2 ∷ two_epochs) complete_two p
  pub notifiable : progress.NotifiableByComplete → (p : ℕ) (t : Stamp)
      → IsNotifiable totals (events output_failed.history) p t ↔ IsNotifiableBy totals (events output_failed.history) complete_then p t

-- the law of stamps that are thinned, of four epochs
abbrev pub ThinnedApplies : Type 0
ThinnedApplies =
    ThinnedStampsCoverTheSame
    → cover (bounds_of total_flow total_node) (filter (node_frontier total_flow total_node (until 3)) (drop 1 four_epochs))
    ≡ cover (bounds_of total_flow total_node) (filter (node_frontier total_flow total_node (until 3)) four_epochs)

-- the laws of `auto`, of the state of the failure, and of that in which all nodes are failed
pub record AutoApplies : Type 0 where
  pub one : auto.AutoRunsAreOne → (others : List Step) (other : Machine) → IsAutoRun totals output_failed 2 others other
      → (others ≡ steps_by_themselves) × (other ≡ last_taken)
  pub none : auto.AutoRunsAreOne → (others : List Step) (other : Machine) → IsAutoRun totals all_failed 1 others other
      → (others ≡ []) × (other ≡ all_failed)
  pub runs : auto.AutoRunsAreRuns → (effects : List Effect) × Run totals output_failed steps_by_themselves (map did effects) last_taken
  pub goes_on : auto.AutoRunsGoOn → IsAutoRun totals output_failed 2 steps_by_themselves last_taken
