-- Witnesses for the laws of records: a checkpoint of the running total, one of the loop that counts up, and an event.
use Rattle.std.specs.Prelude.{Err, Ok, [], take, ℕ, ◌∷◌, ◌≡◌}
use Rattle.fw_frontier.specs.Front.{IsCanonical}
use Rattle.fw_frontier.specs.declared.state.Entries.TheVariants.{Totals}
use Rattle.fw_flow.specs.Dataflow.{bounds_of}
use Rattle.fw_model.specs.Choice.{until}
use Rattle.fw_record.specs.OfNode.{HasCanonicalFronts, IsRecordOfCheckpoint}
use Rattle.fw_record.specs.Reading.{whole_of}
use Rattle.fw_bytes.specs.Sound.{IsFront, IsStamp}
use Rattle.fw_record.specs.Sound.{IsSound}
use Rattle.fw_record.specs.Spelling.{spelling}
use Rattle.fw_record.specs.declared.logged.Logged.{Logged}
use Rattle.fw_record.specs.declared.record.Checkpoint.{Checkpoint}
use Rattle.fw_record.specs.declared.record.Event.TheVariants.{Deliver}
use Rattle.fw_record.specs.declared.record.Record.{Record}
use Rattle.fw_record.specs.declared.record.Record.TheVariants.{Event, State}
use Rattle.fw_examples.specs.Flows.{loop_counts_up, pair}
use Rattle.fw_examples.specs.Loop.{counted_rounds, fed_back_edge, message, round}
use Rattle.fw_examples.specs.OffersOfTotals.{record_of_checkpoint}
use Rattle.fw_examples.specs.RunningTotal.{total_node, src_to_run, total_flow}

-- the running total after epochs 0 and 1: it sent one message, and the values of key 1 sum up to 10
abbrev pub total_saved : Checkpoint
total_saved = record {
  node = total_node;
  recorded = record_of_checkpoint;
  state = record { sent = 1; sends = []; entries = Totals (pair 1 10 ∷ []) };
  log = [];
}

-- the node of the loop where rounds meet
abbrev pub rounds_meet : ℕ
rounds_meet = 2

-- the edge on which what enters the loop comes to it
abbrev pub entry_edge : ℕ
entry_edge = 1

-- the edge from it
abbrev pub mixed_edge : ℕ
mixed_edge = 2

-- what it sent in a round of epoch 0
abbrev pub sent_in_round : ℕ → Logged
sent_in_round c = record { edge = mixed_edge; message = message (round 0 c) (pair 1 c) (round 0 c) }

-- The node after three rounds of epoch 0: it was never notified, can send again all that it sent, and may have to send the
-- messages of the last two rounds.
abbrev pub rounds_saved : Checkpoint
rounds_saved = record {
  node = rounds_meet;
  recorded = record {
    front = counted_rounds;
    notified = round 0 0 ∷ [];
    delivered =
        record { edge = entry_edge; front = round 0 1 ∷ round 1 0 ∷ [] }
        ∷ record { edge = fed_back_edge; front = counted_rounds }
        ∷ [];
    discarded = [];
  };
  state = record { sent = 3; sends = []; entries = Totals [] };
  log = sent_in_round 1 ∷ sent_in_round 2 ∷ [];
}

-- the rec of epoch 1 was delivered to the running total
abbrev pub rec_came : Record
rec_came = Event total_node (Deliver src_to_run (1 ∷ []) (pair 1 10))

-- Two checkpoints have a spelling and are of their nodes, one of them with fronts of two stamps and a log; and an event has
-- this one, of which no field is broken. What the laws say of them: each is read again, and the fronts are canonical. Without
-- the last byte the event's last number is the first broken field.
pub record RecordsAreSpelled : Type 0 where
  pub total : IsSound (State total_saved)
  pub of_total : IsRecordOfCheckpoint total_flow total_node (until 2) (State total_saved)
  pub rounds : IsSound (State rounds_saved)
  pub of_rounds : IsRecordOfCheckpoint loop_counts_up rounds_meet counted_rounds (State rounds_saved)
  pub event : IsSound rec_came
  pub spelled : spelling rec_came
      ≡ 70 ∷ 87 ∷ 1 ∷ 2 ∷ 0 ∷ 0 ∷ 0 ∷ 1 ∷ 1 ∷ 0 ∷ 0 ∷ 0 ∷ 0 ∷ 1 ∷ 0 ∷ 0 ∷ 0 ∷ 1
      ∷ 0 ∷ 0 ∷ 0 ∷ 0 ∷ 0 ∷ 0 ∷ 0 ∷ 1 ∷ 0 ∷ 0 ∷ 0 ∷ 0 ∷ 0 ∷ 0 ∷ 0 ∷ 10 ∷ []
  pub total_again : whole_of (spelling (State total_saved)) ≡ Ok (State total_saved)
  pub rounds_again : whole_of (spelling (State rounds_saved)) ≡ Ok (State rounds_saved)
  pub event_again : whole_of (spelling rec_came) ≡ Ok rec_came
  pub broken : whole_of (take 33 (spelling rec_came)) ≡ Err 7
  pub fronts : HasCanonicalFronts loop_counts_up rounds_meet rounds_saved.recorded

-- The stamps of the loop have a spelling, and a canonical front of two of them is one that a record can hold.
pub record FrontsAreSpelled : Type 0 where
  pub greatest : IsStamp (bounds_of loop_counts_up rounds_meet).greatest
  pub canonical : IsCanonical (bounds_of loop_counts_up rounds_meet) counted_rounds
  pub front : IsFront counted_rounds
