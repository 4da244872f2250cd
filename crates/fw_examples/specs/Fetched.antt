-- Witnesses for the laws of fetching: three checkpoints of a running total that logs what it sends, a whole one and two of changes.
use Rattle.std.specs.Prelude.{List, Some, [], length, ℕ, ◌++◌, ◌∷◌, ◌≡◌}
use Rattle.std.specs.FinMap.{empty, insert}
use Rattle.fw_bag.specs.declared.rec.Rec.{Rec}
use Rattle.fw_frontier.specs.Front.{Front}
use Rattle.fw_frontier.specs.declared.state.Entries.TheVariants.{Totals}
use Rattle.fw_flow.specs.Dataflow.{Dataflow, kind_of, node_frontier}
use Rattle.fw_flow.specs.declared.choice.Recorded.{Recorded}
use Rattle.fw_flow.specs.declared.event.Event.{Event}
use Rattle.fw_flow.specs.declared.event.Event.TheVariants.{Deliver as Delivered}
use Rattle.fw_flow.specs.declared.kind.Policy.TheVariants as policy
use Rattle.fw_model.specs.Choice.{until}
use Rattle.fw_model.specs.Filtering.{events_inside}
use Rattle.fw_record.specs.Spelling.{spelling}
use Rattle.fw_record.specs.declared.logged.Logged.{Logged}
use Rattle.fw_record.specs.declared.record.Checkpoint.{Checkpoint}
use Rattle.fw_record.specs.declared.record.Record.{Record}
use Rattle.fw_record.specs.declared.record.Record.TheVariants.{Changes, State}
use Rattle.fw_keep.specs.declared.entry.Entry.{Entry}
use Rattle.fw_keep.specs.Chains.{logged_in_all, states_of}
use Rattle.fw_keep.specs.Entry.{asked_beside}
use Rattle.fw_keep.specs.Joined.{IsFetchedOver, IsJoinedCheckpoint, bases_of}
use Rattle.fw_keep.specs.Stored.{Records}
use Rattle.fw_node.specs.ChainOf.{HaveChanges}
use Rattle.fw_node.specs.StateOf.{IsStateOf}
use Rattle.fw_rollback.specs.Restored.{log_of}
use Rattle.fw_fetched.specs.LawsOfFetching.{FetchedRestoresTheChain, FetchedRestoresWhatIsRead, IsRestoredAs, JoinedHasTheState, JoinedLogIsAllLogs}
use Rattle.fw_examples.specs.Flows.{in_a_row, pair}
use Rattle.fw_examples.specs.Loop.{message}
use Rattle.fw_examples.specs.RunningTotal.{run_to_out, src_to_run, summing, total_node}

-- ---- three epochs, and a checkpoint after each

-- the dataflow whose running total logs what it sends
abbrev pub logging_flow : Dataflow
logging_flow = in_a_row (summing policy.Eager)

-- a rec came from the input at an epoch
abbrev pub came_at_epoch : ℕ → Rec → Event
came_at_epoch x rec = Delivered src_to_run (message (x ∷ []) rec (x ∷ []))

-- three epochs came, the latest event first: the first has a rec of key 1, the second of keys 1 and 2, the third of key 2
abbrev pub three_epochs_came : List Event
three_epochs_came = came_at_epoch 2 (pair 2 1) ∷ came_at_epoch 1 (pair 2 7) ∷ came_at_epoch 1 (pair 1 5) ∷ came_at_epoch 0 (pair 1 10) ∷ []

-- what is recorded of the first k epochs: they came, and the running total was notified of them
abbrev pub recorded_epochs : ℕ → Recorded
recorded_epochs k = record {
  front = until k;
  notified = until k;
  delivered = record { edge = src_to_run; front = until k } ∷ [];
  discarded = [];
}

-- a total that was sent at an epoch
abbrev pub logged_total : ℕ → Rec → Logged
logged_total x rec = record { edge = run_to_out; message = message (x ∷ []) rec (x ∷ []) }

-- a checkpoint of the first k epochs: how many totals were sent, and what it holds of totals and of the log
abbrev pub saved_epochs : ℕ → ℕ → List Rec → List Logged → Checkpoint
saved_epochs k sent totals log = record {
  node = total_node;
  recorded = recorded_epochs k;
  state = record { sent = sent; sends = []; entries = Totals totals };
  log = log;
}

-- that of the first epoch, which is whole
abbrev pub first_saved : Checkpoint
first_saved = saved_epochs 1 1 (pair 1 10 ∷ []) (logged_total 0 (pair 1 10) ∷ [])

-- what changed at the second epoch: both keys
abbrev pub second_saved : Checkpoint
second_saved = saved_epochs 2 3 (pair 1 15 ∷ pair 2 7 ∷ []) (logged_total 1 (pair 1 15) ∷ logged_total 1 (pair 2 7) ∷ [])

-- what changed at the third epoch: key 2 alone
abbrev pub third_saved : Checkpoint
third_saved = saved_epochs 3 4 (pair 2 8 ∷ []) (logged_total 2 (pair 2 8) ∷ [])

-- all of it: of each key the last total, and all that was sent
abbrev pub all_saved : Checkpoint
all_saved = saved_epochs 3 4 (pair 1 15 ∷ pair 2 8 ∷ []) (first_saved.log ++ second_saved.log ++ third_saved.log)

-- ---- their records and entries

-- the records of the first two
abbrev pub records_under : List Record
records_under = State first_saved ∷ Changes 0 second_saved ∷ []

-- that of the third
abbrev pub record_above : Record
record_above = Changes 1 third_saved

-- the entry under an id of a record beside earlier ones, of which no stamps are kept
abbrev pub entry_beside : List Entry → ℕ → Record → Entry
entry_beside earlier id r = asked_beside earlier id r (record { delivered = []; notified = []; sent = [] })

-- the entries of the first two
abbrev pub entries_under : List Entry
entries_under =
    let first = entry_beside [] 0 (State first_saved) in
    first ∷ entry_beside (first ∷ []) 1 (Changes 0 second_saved) ∷ []

-- that of the third
abbrev pub entry_above : Entry
entry_above = entry_beside entries_under 2 record_above

-- the store holds the bytes of each under its id
abbrev pub three_held : Records
three_held =
    insert (insert (insert empty 0 (spelling (State first_saved))) 1 (spelling (Changes 0 second_saved))) 2 (spelling record_above)

-- The third stands on the other two. Of what came the events of the first epoch have the state of the first, and what changed has that of the
-- others. What fetching gives of the third is whole; the laws say that it has the state of all that came, that its log has the messages
-- of all three, which are four, and that what is restored from it is restored from the three.
pub record ChainIsFetched : Type 0 where
  pub bases : bases_of (entries_under ++ entry_above ∷ []) entry_above ≡ entries_under
  pub first : IsStateOf (kind_of logging_flow total_node) (events_inside (node_frontier logging_flow total_node (until 1)) three_epochs_came)
      first_saved.state
  pub changes : HaveChanges logging_flow total_node three_epochs_came (until 1) (states_of (second_saved ∷ third_saved ∷ []))
  pub joined : IsJoinedCheckpoint records_under third_saved all_saved
  pub fetched : IsFetchedOver logging_flow (Some three_held) (Some (2, spelling record_above)) entries_under entry_above (State all_saved)
  pub messages : length (logged_in_all run_to_out (all_saved ∷ [])) ≡ 4
  pub state : JoinedHasTheState
      → IsStateOf (kind_of logging_flow total_node) (events_inside (node_frontier logging_flow total_node (until 3)) three_epochs_came)
      all_saved.state
  pub log : JoinedLogIsAllLogs → (low : List Front)
      → log_of logging_flow low run_to_out (logged_in_all run_to_out (all_saved ∷ []))
      ≡ log_of logging_flow low run_to_out (logged_in_all run_to_out (first_saved ∷ second_saved ∷ third_saved ∷ []))
  pub chain : FetchedRestoresTheChain → IsRestoredAs (State all_saved ∷ []) (records_under ++ record_above ∷ [])
  pub read : FetchedRestoresWhatIsRead → IsRestoredAs (State all_saved ∷ []) (records_under ++ record_above ∷ [])
