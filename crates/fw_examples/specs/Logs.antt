-- Nodes that log what they do: a select that writes each event, of which one is not written; a collection, and a failure of the
-- select and of the output after it: which of the logged events are collected, and what the logs hold; and a running total of whose
-- logged events a collection takes none.
use Rattle.std.specs.Prelude.{List, None, Some, [], false, true, ℕ, ◌∷◌, ◌≡◌}
use Rattle.fw_bag.specs.declared.rec.Rec.{Rec}
use Rattle.fw_frontier.specs.Front.{Front}
use Rattle.fw_flow.specs.Dataflow.{System, out_edges, node_frontier}
use Rattle.fw_flow.specs.declared.choice.Choice.{Choice}
use Rattle.fw_flow.specs.declared.choice.Cut.TheVariants.{At, Present}
use Rattle.fw_flow.specs.declared.event.Event.{Event}
use Rattle.fw_flow.specs.declared.event.Event.TheVariants.{Deliver as Delivered, Inject as Injected, Notify as Notified}
use Rattle.fw_flow.specs.declared.event.Message.{Message}
use Rattle.fw_flow.specs.declared.step.Step.{Step}
use Rattle.fw_flow.specs.declared.step.Step.TheVariants.{Ack, Collect, Deliver, Fail, Inject, Notify, Persist, Progress, Recover}
use Rattle.fw_model.specs.Choice.{IsLargest, kept_of, until}
use Rattle.fw_model.specs.Machine.{Machine, Write, acknowledged, checkpoint, collected, first_state, front_of, logged_event}
use Rattle.fw_model.specs.Resending.{logged_messages, messages_to_resend}
use Rattle.fw_model.specs.Steps.{Outcome, Run, acked, cuts, did, is_given_up, lies_below, lows, offers, silent, sends_inside}
use Rattle.fw_examples.specs.Flows.{fed, pair, big, big_to_out, out, selecting, src, src_to_big}
use Rattle.fw_examples.specs.Loop.{with_serials}
use Rattle.fw_examples.specs.RunningTotal.{alike, total_node, run_to_out, src_to_run, summing}
use Rattle.fw_flow.specs.declared.kind.Policy.TheVariants as policy

-- one batch of two recs that are selected
abbrev pub two_recs : List (List Rec)
two_recs = (pair 1 20 ∷ pair 2 30 ∷ []) ∷ []

-- the dataflow with this batch, whose select writes each event
abbrev pub each_written : System
each_written = fed (selecting policy.Full) two_recs

-- the frontier of no stamp
abbrev pub none : Front
none = (0 ∷ []) ∷ []

-- the input and the select keep nothing
abbrev pub nothing_restored : Choice
nothing_restored = record { cuts = At none ∷ At none ∷ Present ∷ []; notices = none ∷ none ∷ none ∷ [] }

-- nothing has happened, but for the three serials that were drawn
abbrev pub nothing_left : Machine
nothing_left = record {
  history = [];
  next = 3;
  settled = none ∷ none ∷ none ∷ [];
  writes = [];
  failed = false ∷ false ∷ false ∷ [];
  ack_counts = 0 ∷ 0 ∷ 0 ∷ [];
  low = none ∷ none ∷ none ∷ [];
}

-- Of two events of the settled epoch one is acknowledged when the select fails: it comes back without the epoch.
abbrev pub LosesAnEpoch : Type 0
LosesAnEpoch =
    Run each_written (first_state each_written)
    (Inject src ∷ Deliver src_to_big None ∷ Deliver src_to_big None ∷ Progress ∷ Persist ∷ Fail (big ∷ []) ∷ Recover ∷ [])
    (did silent ∷ did silent ∷ did silent ∷ did silent ∷ did silent ∷ did silent ∷ did (cuts nothing_restored) ∷ [])
    nothing_left

-- ---- a select that logs what it does, a collection, and a failure of the select and of the output after it

-- two batches of a rec that is selected
abbrev pub selected_batches : List (List Rec)
selected_batches = (pair 1 20 ∷ []) ∷ (pair 2 30 ∷ []) ∷ []

-- each node keeps epoch 0
abbrev pub first_epoch_everywhere : Choice
first_epoch_everywhere = record { cuts = At (until 1) ∷ At (until 1) ∷ At (until 1) ∷ []; notices = alike 1 }

-- a message that comes from an event at its own epoch
abbrev pub in_epoch : ℕ → Rec → Message
in_epoch x rec = record { at = x ∷ []; rec = rec; causes = (x ∷ []) ∷ [] }

-- what is sent of epoch 0, by the input and by the select
abbrev pub first_message : Message
first_message = in_epoch 0 (pair 1 20)

-- and of epoch 1
abbrev pub second_message : Message
second_message = in_epoch 1 (pair 2 30)

-- epoch 0 came through to the output, and epoch 1 to the select, the latest event first
abbrev pub one_came_through : List Event
one_came_through =
    Delivered src_to_big second_message
    ∷ Injected src 1
    ∷ Delivered big_to_out first_message
    ∷ Delivered src_to_big first_message
    ∷ Injected src 0
    ∷ []

-- all at the input and at the select, and epoch 0 at the output
abbrev pub all_but_the_last : List Front
all_but_the_last = [] ∷ [] ∷ until 1 ∷ []

-- the input stays as it is, the select comes back with all that it took, and the output with what it acknowledged
abbrev pub both_come_back : Choice
both_come_back = record { cuts = Present ∷ At [] ∷ At (until 1) ∷ []; notices = all_but_the_last }

-- the select and the output failed with these writes and this low watermark, after the output acknowledged epoch 0
abbrev pub both_failed : List Write → List Front → Machine
both_failed writes low = record {
  history = with_serials one_came_through;
  next = 5;
  settled = all_but_the_last;
  writes = writes;
  failed = false ∷ true ∷ true ∷ [];
  ack_counts = 0 ∷ 0 ∷ 1 ∷ [];
  low = low;
}

-- ---- a select that logs each event

-- its dataflow, with two batches
abbrev pub events_logged : System
events_logged = fed (selecting policy.Full) selected_batches

-- both of its events were logged, and the first is collected
abbrev pub event_collected : Machine
event_collected =
    both_failed
    (record { node = big; written = logged_event 1; base = None; depth = 0; stage = collected }
    ∷ record { node = big; written = logged_event 4; base = None; depth = 0; stage = acknowledged }
    ∷ [])
    all_but_the_last

-- the low watermark that the collection takes
abbrev pub low_but_for_the_last : Choice
low_but_for_the_last = record { cuts = At [] ∷ At [] ∷ At (until 1) ∷ []; notices = all_but_the_last }

-- the steps to that state
abbrev pub steps_with_events : List Step
steps_with_events =
    Inject src ∷ Deliver src_to_big None ∷ Deliver big_to_out None ∷ Inject src ∷ Deliver src_to_big None ∷ Progress ∷ Persist ∷ Persist
    ∷ Ack out ∷ Collect ∷ Fail (big ∷ out ∷ []) ∷ []

-- what they show
abbrev pub outcomes_with_events : List Outcome
outcomes_with_events =
    did silent ∷ did silent ∷ did silent ∷ did silent ∷ did silent ∷ did silent ∷ did silent ∷ did silent
    ∷ did (acked out (0 ∷ []) (pair 1 20 ∷ [])) ∷ did (lows low_but_for_the_last) ∷ did silent ∷ []

-- Of two logged events the one is collected, since its stamp lies below the select's watermark and what it sent below the
-- output's. The other is kept: its stamp lies below too, but what it sent does not, and is sent again when both come back.
pub record CollectsALoggedEvent : Type 0 where
  pub reached : Run events_logged (first_state events_logged) steps_with_events outcomes_with_events event_collected
  pub largest : IsLargest events_logged event_collected (offers events_logged event_collected) both_come_back
  pub first_below : lies_below events_logged event_collected.low event_collected.history big (logged_event 1) ≡ true
  pub second_inside : node_frontier events_logged.flow big (front_of event_collected.low big) (1 ∷ []) ≡ true
  pub second_needed : is_given_up events_logged event_collected.low big (1 ∷ []) ≡ false
  pub log : logged_messages events_logged event_collected event_collected.low big_to_out (kept_of events_logged.flow both_come_back big) ≡ second_message ∷ []
  pub sent_again : messages_to_resend events_logged event_collected both_come_back big_to_out ≡ second_message ∷ []

-- ---- a select that writes a checkpoint with its log whenever more is settled

-- its dataflow, with the same batches
abbrev pub checkpoints_logged : System
checkpoints_logged = fed (selecting policy.Eager) selected_batches

-- a checkpoint of epoch 0 was written before the collection, and one of all after it
abbrev pub log_kept : Machine
log_kept =
    both_failed
    (record { node = big; written = checkpoint (until 1) (alike 0); base = None; depth = 0; stage = acknowledged }
    ∷ record { node = big; written = checkpoint [] (alike 1); base = Some (until 1); depth = 1; stage = acknowledged }
    ∷ [])
    (alike 1)

-- the steps to that state
abbrev pub steps_with_checkpoints : List Step
steps_with_checkpoints =
    Inject src ∷ Deliver src_to_big None ∷ Deliver big_to_out None ∷ Progress ∷ Persist ∷ Ack out ∷ Collect
    ∷ Inject src ∷ Deliver src_to_big None ∷ Progress ∷ Persist ∷ Fail (big ∷ out ∷ []) ∷ []

-- what they show
abbrev pub outcomes_with_checkpoints : List Outcome
outcomes_with_checkpoints =
    did silent ∷ did silent ∷ did silent ∷ did silent ∷ did silent
    ∷ did (acked out (0 ∷ []) (pair 1 20 ∷ [])) ∷ did (lows first_epoch_everywhere)
    ∷ did silent ∷ did silent ∷ did silent ∷ did silent ∷ did silent ∷ []

-- what the log of the checkpoint of all holds of the edge to the output, if it was asked at this low watermark
abbrev pub log_recorded_at : List Front → List Message
log_recorded_at low = logged_messages checkpoints_logged log_kept low big_to_out (kept_of checkpoints_logged.flow both_come_back big)

-- The log that is kept with the checkpoint of all has what was sent of epoch 1, and no longer what was sent of epoch 0. What was
-- sent of epoch 1 is sent again when both come back.
pub record KeepsALogWithACheckpoint : Type 0 where
  pub reached : Run checkpoints_logged (first_state checkpoints_logged) steps_with_checkpoints outcomes_with_checkpoints log_kept
  pub largest : IsLargest checkpoints_logged log_kept (offers checkpoints_logged log_kept) both_come_back
  pub log_before : log_recorded_at (alike 0) ≡ second_message ∷ first_message ∷ []
  pub log : log_recorded_at (alike 1) ≡ second_message ∷ []
  pub sent_again : messages_to_resend checkpoints_logged log_kept both_come_back big_to_out ≡ second_message ∷ []

-- ---- a running total that logs each event

-- a batch of one rec
abbrev pub single_rec : List (List Rec)
single_rec = (pair 1 20 ∷ []) ∷ []

-- its dataflow, with this batch
abbrev pub total_logged : System
total_logged = fed (summing policy.Full) single_rec

-- epoch 0 came through, the latest event first
abbrev pub total_came_through : List Event
total_came_through =
    Delivered run_to_out first_message ∷ Notified total_node (0 ∷ []) ∷ Delivered src_to_run first_message ∷ Injected src 0 ∷ []

-- both events of the running total were logged, and after the collection both are kept
abbrev pub none_collected : Machine
none_collected = record {
  history = with_serials total_came_through;
  next = 4;
  settled = [] ∷ [] ∷ [] ∷ [];
  writes =
      record { node = total_node; written = logged_event 1; base = None; depth = 0; stage = acknowledged }
      ∷ record { node = total_node; written = logged_event 2; base = None; depth = 0; stage = acknowledged }
      ∷ [];
  failed = false ∷ false ∷ false ∷ [];
  ack_counts = 0 ∷ 0 ∷ 1 ∷ [];
  low = all_but_the_last;
}

-- the steps to that state
abbrev pub steps_with_total : List Step
steps_with_total =
    Inject src ∷ Deliver src_to_run None ∷ Notify total_node (Some (0 ∷ [])) ∷ Deliver run_to_out None ∷ Progress ∷ Persist ∷ Persist ∷ Ack out
    ∷ Collect ∷ []

-- what they show
abbrev pub outcomes_with_total : List Outcome
outcomes_with_total =
    did silent ∷ did silent ∷ did silent ∷ did silent ∷ did silent ∷ did silent ∷ did silent
    ∷ did (acked out (0 ∷ []) (pair 1 20 ∷ [])) ∷ did (lows low_but_for_the_last) ∷ []

-- The collection takes no logged event of a running total, though the stamp of both lies below its watermark, and what was
-- sent there below the output's: later epochs are summed from them.
pub record KeepsEventsOfATotal : Type 0 where
  pub reached : Run total_logged (first_state total_logged) steps_with_total outcomes_with_total none_collected
  pub inside : node_frontier total_logged.flow total_node (front_of none_collected.low total_node) (0 ∷ []) ≡ true
  pub sent_inside : sends_inside total_logged none_collected.low total_node (0 ∷ []) (out_edges total_logged.flow total_node) ≡ true
  pub first_kept : lies_below total_logged none_collected.low none_collected.history total_node (logged_event 1) ≡ false
  pub second_kept : lies_below total_logged none_collected.low none_collected.history total_node (logged_event 2) ≡ false
