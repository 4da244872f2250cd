-- What a recovery makes of progress.
use Rattle.std.specs.Prelude.{◌≡◌, ℕ, ◌<◌, true, List, [], length, slice_index_or}
use Rattle.std.specs.List.{AllByRecursion}
use Rattle.fw_time.specs.Stamp.{Stamp, in_domain}
use Rattle.fw_flow.specs.declared.choice.Choice.{Choice}
use Rattle.fw_flow.specs.declared.event.Message.{Message}
use Rattle.fw_flow.specs.Dataflow.{System, Dataflow, bounds_of, receiver, HasEpochs}
use Rattle.fw_model.specs.Choice.{cut_of}
use Rattle.fw_model.specs.History.{IsLegal}
use Rattle.fw_model.specs.Machine.{SerialEvent, events, front_of}
use Rattle.fw_edge.specs.Messages.{MessagesState}
use Rattle.fw_progress.specs.Counts.{sent_of}
use Rattle.fw_progress.specs.Cut.{ArePendingAfter, AreTablesAfter, events_left}
use Rattle.fw_progress.specs.History.{count_at, IsCountOf, StandsForHistory}
use Rattle.fw_progress.specs.Progress.{Standing}
use Rattle.fw_progress.specs.Tally.{times_in}
use Rattle.fw_rollback.specs.Edges.{on_edge}
use Rattle.fw_stands.specs.Recovered.{IsSettledBy, table_left}

-- each message of these queues is at a stamp of its receiver's domain
abbrev pub AreAtReceivers : Dataflow → List MessagesState → Type 0
AreAtReceivers flow queues =
    (e : ℕ) → AllByRecursion (λ (m : Message). in_domain (bounds_of flow (receiver flow e)) m.at ≡ true) (on_edge queues e).messages

-- Progress is cut to a choice: so much is pending as these queues have, the table of a sequence has what its cut leaves, and what is
-- settled is cut. It stands then for what is left of each history for which it stood.
pub record IsProgressCut (flow : Dataflow) (choice : Choice) (queues : List MessagesState) (old new : Standing) : Type 0 where
  pub pending : List (List (Stamp × ℕ))
  pub counted : (e : ℕ) → e < length flow.edges → (t : Stamp) → times_in t (slice_index_or pending e []) ≡ count_at t (on_edge queues e).messages
  pub tables : List (List (ℕ × ℕ))
  pub left : (p : ℕ) → p < length flow.nodes → slice_index_or tables p [] ≡ table_left (cut_of choice p) (sent_of old.counts p)
  pub stands : (sys : System) (h : List SerialEvent) → sys.flow ≡ flow → HasEpochs sys → IsLegal sys (events h) → IsCountOf sys (events h) old.counts
      → ArePendingAfter sys (events_left sys choice h) pending → AreTablesAfter sys (events_left sys choice h) tables
      → StandsForHistory sys (events_left sys choice h) new
  pub one_each : length new.settled ≡ length flow.nodes
  pub settled : (p : ℕ) → p < length flow.nodes → IsSettledBy (front_of old.settled p) (cut_of choice p) (front_of new.settled p)
