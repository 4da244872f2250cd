-- What a recovery leaves of what is counted.
use Rattle.std.specs.Prelude.{◌≡◌, ℕ, ◌<◌, true, ◌&&◌, ◌==◌, nat_lt, if◌then◌else◌, List, [], ◌∷◌, length, filter, slice_index, slice_index_or}
use Rattle.std.specs.List.{AllByRecursion}
use Rattle.fw_time.specs.Stamp.{Stamp}
use Rattle.fw_frontier.specs.Front.{Front, inside}
use Rattle.fw_flow.specs.declared.choice.Choice.{Choice}
use Rattle.fw_flow.specs.declared.choice.Cut.{Cut}
use Rattle.fw_flow.specs.declared.choice.Cut.TheVariants.{Present, At}
use Rattle.fw_flow.specs.declared.event.Event.{Event}
use Rattle.fw_flow.specs.Dataflow.{System, Dataflow, kind_of, receiver, bounds_of}
use Rattle.fw_flow.specs.Projection.{IsSentTable}
use Rattle.fw_flow.specs.SentTable.{EpochsAscend}
use Rattle.fw_model.specs.Choice.{cut_of, filtered_history}
use Rattle.fw_model.specs.History.{pending_messages, was_notified}
use Rattle.fw_model.specs.Machine.{SerialEvent, events}
use Rattle.fw_model.specs.Sending.{SendsByCount}
use Rattle.fw_progress.specs.declared.counts.Counts.{Counts}
use Rattle.fw_progress.specs.Counts.{owed_of, injected_in}
use Rattle.fw_progress.specs.History.{count_at}
use Rattle.fw_progress.specs.Tally.{times_in, IsTallyOf}

-- the events that a choice leaves of a history
abbrev pub events_left : System → Choice → List SerialEvent → List Event
events_left sys choice h = events (filtered_history sys choice h)

-- how many messages are pending on the edges of a flow, by stamp
pub record AreTallies (flow : Dataflow) (pending : List (List (Stamp × ℕ))) : Type 0 where
  pub one_each : length pending ≡ length flow.edges
  pub each : (e : ℕ) → e < length flow.edges → IsTallyOf (bounds_of flow (receiver flow e)) (slice_index_or pending e [])

-- so many messages are pending after a history
abbrev pub ArePendingAfter : System → List Event → List (List (Stamp × ℕ)) → Type 0
ArePendingAfter sys h pending =
    (e : ℕ) → e < length sys.flow.edges → (t : Stamp) → times_in t (slice_index_or pending e []) ≡ count_at t (pending_messages sys h e)

-- So many messages each sequence sent in the epochs of which it was notified.
pub record IsTableAfter (sys : System) (h : List Event) (p : ℕ) (table : List (ℕ × ℕ)) : Type 0 where
  pub sent : IsSentTable sys h p table
  pub in_order : EpochsAscend table
  pub epochs : AllByRecursion (λ entry. was_notified p (entry.0 ∷ []) h ≡ true) table

-- the same of each sequence
abbrev pub AreTablesAfter : System → List Event → List (List (ℕ × ℕ)) → Type 0
AreTablesAfter sys h tables =
    (p : ℕ) → p < length sys.flow.nodes → SendsByCount (kind_of sys.flow p) → IsTableAfter sys h p (slice_index_or tables p [])

-- ---- for the proofs

-- so many epochs, but none from the one at which a stamp is, if it is one of epochs
abbrev pub until_epoch : Stamp → ℕ → ℕ
until_epoch o n = if (length o == 1) && nat_lt (slice_index o 0) n then slice_index o 0 else n

-- how many of the first epochs, so many, are inside
abbrev pub epochs_inside_of_first : Front → ℕ → ℕ
epochs_inside_of_first [] n = n
epochs_inside_of_first (o ∷ f) n = epochs_inside_of_first f (until_epoch o n)

-- how many of them a cut leaves
abbrev pub epochs_left : Cut → ℕ → ℕ
epochs_left Present n = n
epochs_left (At f) n = epochs_inside_of_first f n

-- what a cut leaves of a tally
abbrev pub tally_left : Cut → List (Stamp × ℕ) → List (Stamp × ℕ)
tally_left Present entries = entries
tally_left (At f) entries = filter (λ entry. inside f entry.0) entries

-- Of what is owed and was injected a choice leaves what is inside its cuts.
pub record AreCut (flow : Dataflow) (choice : Choice) (old new : Counts) : Type 0 where
  pub owed_each : length new.owed.items ≡ length old.owed.items
  pub owed : (p : ℕ) → p < length flow.nodes → owed_of new p ≡ tally_left (cut_of choice p) (owed_of old p)
  pub injected_each : length new.injected.items ≡ length old.injected.items
  pub injected : (p : ℕ) → p < length flow.nodes → injected_in new p ≡ epochs_left (cut_of choice p) (injected_in old p)
  pub batches : new.batches.items ≡ old.batches.items
