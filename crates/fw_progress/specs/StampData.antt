-- A node's traces as data, and data as its traces.
use Rattle.std.specs.Prelude.{◌≡◌, ◌≢◌, ℕ, ◌+◌, ◌<◌, if◌then◌else◌, true, List, [], ◌∷◌, ◌++◌, map, filter, length, slice_index_or, Option, Some, None}
use Rattle.std.specs.List.{AllByRecursion, Contains, flat_map}
use Rattle.fw_time.specs.Stamp.{Stamp}
use Rattle.fw_frontier.specs.Front.{Front, inside}
use Rattle.fw_flow.specs.declared.choice.Counted.{Counted}
use Rattle.fw_flow.specs.declared.choice.Stamps.{Stamps}
use Rattle.fw_flow.specs.Dataflow.{Dataflow, kind_of, sender, receiver, in_edges, out_edges, is_sequence_kind}
use Rattle.fw_model.specs.Sending.{is_single_kind}
use Rattle.fw_model.specs.EventStamps.{causes_of}
use Rattle.fw_model.specs.Offers.{counted_on_edge, stamps_on}
use Rattle.fw_progress.specs.declared.sent_tally.SentTally.{SentTally}
use Rattle.fw_progress.specs.declared.traces.Traces.{Traces}
use Rattle.fw_progress.specs.Covers.{last_number, sent_stamp_at}
use Rattle.fw_progress.specs.Progress.{ChangesAt}
use Rattle.fw_progress.specs.Tally.{count_inside}
use Rattle.fw_progress.specs.Trace.{delivered_on, stamps_notified, stamps_where_sent, counted_of, counts_sent, no_tally}
use Rattle.fw_progress.specs.Traces.{thinned}

-- what is taken of kept stamps: all, or those inside a frontier, thinned inside it
abbrev pub taken : Option Front → List Stamp → List Stamp
taken None kept = kept
taken (Some f) kept = thinned f (filter (inside f) kept)

-- how many messages are counted: in all, or of events inside a frontier
abbrev pub count_taken : Option Front → SentTally → ℕ
count_taken None tally = tally.inside + count_inside (inside []) tally.outside
count_taken (Some f) tally = tally.inside + count_inside (inside f) tally.outside

-- one message on an edge, with its own stamp for a cause
abbrev pub message_at : ℕ → Stamp → Counted
message_at d s = record { edge = d; at = s; causes = s ∷ []; count = 1 }

-- one message at each of the stamps that are kept of what was delivered on each in-edge of node p
abbrev pub all_delivered : Dataflow → ℕ → (ℕ → List Stamp) → List Counted
all_delivered flow p kept = flat_map (λ d. map (message_at d) (kept d)) (in_edges flow p)

-- one message on an edge at a stamp, where there is one, of a cause
abbrev pub message_of : ℕ → Stamp → Option Stamp → List Counted
message_of e cause None = []
message_of e cause (Some at) = record { edge = e; at = at; causes = cause ∷ []; count = 1 } ∷ []

-- one message on an edge of each event at these stamps that sends
abbrev pub counted_at_stamps : Dataflow → ℕ → List Stamp → ℕ → List Counted
counted_at_stamps flow p ss e = flat_map (λ s. message_of e s (sent_stamp_at flow p s)) ss

-- one message on an edge at each of these numbers, of the first epoch
abbrev pub messages_numbered : List Stamp → ℕ → List Counted
messages_numbered ss e = map (λ s. record { edge = e; at = s; causes = (0 ∷ []) ∷ []; count = 1 }) ss

-- on each out-edge of node p one message of each event that sends, at the stamps that are kept of the edge; of a sequence that sent so
-- many the last one, if they are counted
abbrev pub all_sent : Dataflow → ℕ → (ℕ → List Stamp) → ℕ → List Counted
all_sent flow p kept n =
    if is_sequence_kind (kind_of flow p) then (if counts_sent flow p then flat_map (messages_numbered (last_number n)) (out_edges flow p) else [])
    else flat_map (λ e. counted_at_stamps flow p (kept e) e) (out_edges flow p)

-- the traces of node p as data: in all, or of its events inside a frontier
abbrev pub stamps_by : Dataflow → ℕ → Option Front → Traces → Stamps
stamps_by flow p part traces = record {
  delivered = all_delivered flow p (λ d. taken part (delivered_on traces d));
  notified = taken part (stamps_notified traces p);
  sent = all_sent flow p (λ e. taken part (stamps_where_sent traces e)) (count_taken part (counted_of traces p));
}

-- The data have the stamps that are kept of node p: of what was delivered on each in-edge, and of which it was notified.
pub record HasItsStamps (flow : Dataflow) (p : ℕ) (traces : Traces) (stamps : Stamps) : Type 0 where
  pub delivered : (d : ℕ) → receiver flow d ≡ p → stamps_on d stamps.delivered ≡ delivered_on traces d
  pub notified : stamps.notified ≡ stamps_notified traces p

-- ---- data as traces

-- Kept stamps are these, however often and in whichever order these come.
pub record AreTheSame (all kept : List Stamp) : Type 0 where
  pub each : AllByRecursion (Contains kept) all
  pub among : AllByRecursion (Contains all) kept

-- what is kept has these stamps more
abbrev pub HaveAdded : List Stamp → List Stamp → List Stamp → Type 0
HaveAdded more old new = (all : List Stamp) → AreTheSame all old → AreTheSame (all ++ more) new

-- The lists of the in-edges of node p have the stamps of these messages more, each of its edge, and the others are as they were.
pub record TakeUp (flow : Dataflow) (p : ℕ) (ms : List Counted) (old new : List (List Stamp)) : Type 0 where
  pub one_each : length new ≡ length old
  pub here : (d : ℕ) → receiver flow d ≡ p → HaveAdded (stamps_on d ms) (slice_index_or old d []) (slice_index_or new d [])
  pub others : (d : ℕ) → receiver flow d ≢ p → slice_index_or new d [] ≡ slice_index_or old d []

-- The lists of the in-edges of node p are those of these messages, each of its edge, and the others are as they were.
pub record AreDelivered (flow : Dataflow) (p : ℕ) (ms : List Counted) (old new : List (List Stamp)) : Type 0 where
  pub one_each : length new ≡ length old
  pub here : (d : ℕ) → d < length flow.edges → receiver flow d ≡ p → AreTheSame (stamps_on d ms) (slice_index_or new d [])
  pub others : (d : ℕ) → receiver flow d ≢ p → slice_index_or new d [] ≡ slice_index_or old d []

-- The lists of the out-edges of node p are the causes of these messages, each of its edge, if it is of a single kind, and the others are
-- as they were.
pub record AreCausesOnEdges (flow : Dataflow) (p : ℕ) (ms : List Counted) (old new : List (List Stamp)) : Type 0 where
  pub one_each : length new ≡ length old
  pub here : (e : ℕ) → e < length flow.edges → sender flow e ≡ p → is_single_kind (kind_of flow p) ≡ true
      → AreTheSame (causes_of (counted_on_edge e ms)) (slice_index_or new e [])
  pub others : (e : ℕ) → sender flow e ≢ p → slice_index_or new e [] ≡ slice_index_or old e []

-- The traces of node p have what the data tell, and those of the others are as they were.
pub record AreTold (flow : Dataflow) (p : ℕ) (stamps : Stamps) (count : ℕ) (old new : Traces) : Type 0 where
  pub delivered : AreDelivered flow p stamps.delivered old.delivered.items new.delivered.items
  pub notified : ChangesAt p [] (λ old new. AreTheSame stamps.notified new) old.notified.items new.notified.items
  pub sent : AreCausesOnEdges flow p stamps.sent old.sent.items new.sent.items
  pub counted : ChangesAt p no_tally (λ old new. new ≡ record { inside = count; outside = [] }) old.counted.items new.counted.items
