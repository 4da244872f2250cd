-- What the laws of collections say of whatever is planned in two states: of a select that logged two events, and of the running total
-- with two checkpoints. That something is planned, whatever the flow, the choice and the entries, is the clause of `fw_collect::plan`.
use Rattle.std.specs.Prelude.{List, [], false, not, true, ℕ, filter, ◌∷◌, ◌≡◌, None, Option, Some}
use Rattle.std.specs.List.{AllByRecursion, AllZip}
use Rattle.fw_bag.specs.declared.rec.Rec.{Rec}
use Rattle.fw_time.specs.Stamp.{in_domain}
use Rattle.fw_time.specs.declared.stamp.Bounds.{Bounds}
use Rattle.fw_frontier.specs.Front.{Front}
use Rattle.fw_flow.specs.Dataflow.{bounds_of, is_input_kind, kind_of, policy_of, receiver, sender}
use Rattle.fw_flow.specs.Restoring.{can_resend}
use Rattle.fw_flow.specs.declared.choice.Recorded.{Recorded}
use Rattle.fw_flow.specs.declared.event.Message.{Message}
use Rattle.fw_model.specs.Choice.{until}
use Rattle.fw_model.specs.Machine.{SerialEvent, Write, acknowledged, checkpoint, logged_event}
use Rattle.fw_model.specs.Steps.{checkpoints_of, collected_writes}
use Rattle.fw_model.specs.Writes.{not_collected}
use Rattle.fw_record.specs.declared.record.Event.TheVariants.{Deliver as LoggedDelivery}
use Rattle.fw_keep.specs.declared.entry.Entry.{Entry}
use Rattle.fw_keep.specs.declared.entry.Written.TheVariants as written
use Rattle.fw_keep.specs.Catalogue.{KeepState}
use Rattle.fw_edge.specs.Messages.{MessagesState}
use Rattle.fw_border.specs.Sources.{SourceState}
use Rattle.fw_collect.specs.declared.drops.Drops.{Drops}
use Rattle.fw_collect.specs.Drops.{IsPlanned}
use Rattle.fw_collect.specs.Dropped.{is_dropped, log_left, source_left}
use Rattle.fw_collect.specs.LawsOfCollections.{DropsBatchesOfInputs, DropsMessagesBelowReceivers, DropsWhatIsGivenUp, GoesWith, InputsHoldWhatIsOutside, LogsHoldWhatIsOutside, RisesTo, batches_outside, sent_outside}
use Rattle.fw_examples.specs.Flows.{big, big_to_out, pair, src}
use Rattle.fw_examples.specs.Logs.{all_but_the_last, event_collected, events_logged, first_message, none, one_came_through, second_message}
use Rattle.fw_examples.specs.Loop.{with_serials}
use Rattle.fw_examples.specs.OffersOfTotals.{record_of_checkpoint, recorded_up_to}
use Rattle.fw_examples.specs.RunningTotal.{alike, come_back, total_node, total_flow, totals, two_epochs}

-- the state of a catalogue of two writes, of which no bytes wait
abbrev pub catalogue_of : List Entry → KeepState
catalogue_of entries = record { entries = entries; next = 2; waiting = []; refused = false; shared = false }

-- ---- a select that logged two events

-- the entry of a rec that came to the select at an epoch
abbrev pub entry_logged : ℕ → ℕ → Rec → Entry
entry_logged id x rec = record { id = id; node = big; written = written.Event (LoggedDelivery 0 (x ∷ []) rec); base = None; depth = 0; acknowledged = true }

-- of epoch 0
abbrev pub first_logged : Entry
first_logged = entry_logged 0 0 (pair 1 20)

-- and of epoch 1
abbrev pub second_logged : Entry
second_logged = entry_logged 1 1 (pair 2 30)

-- both
abbrev pub both_logged : List Entry
both_logged = first_logged ∷ second_logged ∷ []

-- the machine's writes before the collection
abbrev pub both_written : List Write
both_written =
    record { node = big; written = logged_event 1; base = None; depth = 0; stage = acknowledged }
    ∷ record { node = big; written = logged_event 4; base = None; depth = 0; stage = acknowledged }
    ∷ []

-- its history
abbrev pub history_then : List SerialEvent
history_then = with_serials one_came_through

-- nothing was collected before
abbrev pub none_collected_yet : List Front
none_collected_yet = none ∷ none ∷ none ∷ []

-- what the select sent
abbrev pub both_sent : List Message
both_sent = first_message ∷ second_message ∷ []

-- its log of that
abbrev pub log_of_both : MessagesState
log_of_both = record { messages = both_sent; refused = false }

-- the input's batches, by epoch
abbrev pub both_batches : List (ℕ × List Rec)
both_batches = (0, pair 1 20 ∷ []) ∷ (1, pair 2 30 ∷ []) ∷ []

-- the input injected both
abbrev pub input_of_both : SourceState
input_of_both = record { given = 2; injected = 2; held = both_batches }

-- the domain of the output
abbrev pub epochs_of_output : Bounds
epochs_of_output = bounds_of events_logged.flow (receiver events_logged.flow big_to_out)

-- what the laws ask here beside a plan
pub record IsToCollect : Type 0 where
  pub entries : AllZip (GoesWith events_logged history_then all_but_the_last both_written (catalogue_of both_logged)) both_logged both_written
  pub rises : RisesTo events_logged.flow none_collected_yet all_but_the_last
  pub resends : can_resend (policy_of events_logged.flow (sender events_logged.flow big_to_out)) ≡ true
  pub in_domain : AllByRecursion (λ (m : Message). in_domain epochs_of_output m.at ≡ true) both_sent
  pub log : log_of_both.messages ≡ sent_outside events_logged.flow none_collected_yet big_to_out both_sent
  pub is_input : is_input_kind (kind_of events_logged.flow src) ≡ true
  pub batches : input_of_both.held ≡ batches_outside events_logged.flow none_collected_yet src both_batches

-- The event of epoch 0 goes, and the message of epoch 0, and both batches; the event of epoch 1 stays, and its message.
pub record IsCollected (drops : Drops) : Type 0 where
  pub first_goes : DropsWhatIsGivenUp → is_dropped drops (catalogue_of both_logged) first_logged ≡ true
  pub second_stays : DropsWhatIsGivenUp → is_dropped drops (catalogue_of both_logged) second_logged ≡ false
  pub log : DropsMessagesBelowReceivers
      → log_left drops.messages.items big_to_out log_of_both ≡ record { messages = second_message ∷ []; refused = false }
  pub batches : DropsBatchesOfInputs → source_left drops.batches.items src input_of_both ≡ record { given = 2; injected = 2; held = [] }
  pub entries : AllZip (GoesWith events_logged history_then all_but_the_last both_written (catalogue_of both_logged)) (filter (λ e. not (is_dropped drops (catalogue_of both_logged) e)) both_logged)
      (filter not_collected event_collected.writes)
  pub log_holds : LogsHoldWhatIsOutside → (log_left drops.messages.items big_to_out log_of_both).messages ≡ second_message ∷ []
  pub input_holds : InputsHoldWhatIsOutside → (source_left drops.batches.items src input_of_both).held ≡ []

-- ---- the running total with two checkpoints

-- the record of the checkpoint of epoch 0, which had no rec
abbrev pub record_of_first : Recorded
record_of_first = recorded_up_to (until 1) (until 0)

-- the entry of a checkpoint, which stands on one with this id and on so many in all
abbrev pub kept_checkpoint : ℕ → Option ℕ → ℕ → Recorded → Entry
kept_checkpoint id base depth what =
    record {
      id = id;
      node = total_node;
      written = written.Checkpoint what (record { delivered = []; notified = []; sent = [] }) 0;
      base = base;
      depth = depth;
      acknowledged = true;
    }

-- the entry of the earlier one, which is whole
abbrev pub earlier_entry : Entry
earlier_entry = kept_checkpoint 0 None 0 record_of_first

-- the entry of the later one, where it is whole too
abbrev pub whole_entry : Entry
whole_entry = kept_checkpoint 1 None 0 record_of_checkpoint

-- and where it holds what changed since the earlier one
abbrev pub changes_entry : Entry
changes_entry = kept_checkpoint 1 (Some 0) 1 record_of_checkpoint

-- the entries of two whole ones
abbrev pub both_checkpoints : List Entry
both_checkpoints = earlier_entry ∷ whole_entry ∷ []

-- the machine's writes of two whole ones before the collection
abbrev pub checkpoints_written : List Write
checkpoints_written =
    record { node = total_node; written = checkpoint (until 1) (alike 0); base = None; depth = 0; stage = acknowledged }
    ∷ record { node = total_node; written = checkpoint (until 2) (alike 0); base = None; depth = 0; stage = acknowledged }
    ∷ []

-- Of two whole checkpoints the earlier one goes, which lies strictly within the watermark.
pub record IsEarlierCollected (drops : Drops) : Type 0 where
  pub earlier_goes : DropsWhatIsGivenUp → is_dropped drops (catalogue_of both_checkpoints) earlier_entry ≡ true
  pub later_stays : DropsWhatIsGivenUp → is_dropped drops (catalogue_of both_checkpoints) whole_entry ≡ false
  pub one_left : checkpoints_of total_node (filter not_collected (collected_writes totals (alike 2) (with_serials two_epochs) checkpoints_written)) ≡ until 2 ∷ []
  pub entries : AllZip (GoesWith totals (with_serials two_epochs) (alike 2) checkpoints_written (catalogue_of both_checkpoints)) (filter (λ e. not (is_dropped drops (catalogue_of both_checkpoints) e)) both_checkpoints)
      (filter not_collected (collected_writes totals (alike 2) (with_serials two_epochs) checkpoints_written))

-- the entries where the later one stands on the earlier, as the running total writes them
abbrev pub both_in_a_chain : List Entry
both_in_a_chain = earlier_entry ∷ changes_entry ∷ []

-- Then the earlier one stays too, though it lies strictly within the watermark.
pub record AreBothLeft (drops : Drops) : Type 0 where
  pub earlier_stays : DropsWhatIsGivenUp → is_dropped drops (catalogue_of both_in_a_chain) earlier_entry ≡ false
  pub later_stays : DropsWhatIsGivenUp → is_dropped drops (catalogue_of both_in_a_chain) changes_entry ≡ false
  pub entries : AllZip (GoesWith totals (with_serials two_epochs) (alike 2) come_back.writes (catalogue_of both_in_a_chain)) (filter (λ e. not (is_dropped drops (catalogue_of both_in_a_chain) e)) both_in_a_chain)
      (filter not_collected come_back.writes)

-- the laws of collections, of both
pub record CollectionsApply : Type 0 where
  pub asked : IsToCollect
  pub logged : (drops : Drops) → IsPlanned events_logged.flow all_but_the_last both_logged drops → IsCollected drops
  pub entries : AllZip (GoesWith totals (with_serials two_epochs) (alike 2) checkpoints_written (catalogue_of both_checkpoints)) both_checkpoints checkpoints_written
  pub checkpoints : (drops : Drops) → IsPlanned total_flow (alike 2) both_checkpoints drops → IsEarlierCollected drops
  pub in_a_chain : (drops : Drops) → IsPlanned total_flow (alike 2) both_in_a_chain drops → AreBothLeft drops
