-- What is told to traces that start again: where inputs sent, and at which stamps the events are that writes log.
use Rattle.std.specs.Prelude.{◌≡◌, ◌↔◌, ◌⊎◌, ℕ, ◌<◌, false, ◌==◌, nat_lt, if◌then◌else◌, List, [], ◌∷◌, ◌++◌, length, slice_index_or}
use Rattle.std.specs.List.{Contains, flat_map, range_with_len}
use Rattle.fw_time.specs.Stamp.{Stamp}
use Rattle.fw_bag.specs.declared.rec.Rec.{Rec}
use Rattle.fw_frontier.specs.Frontier.{Frontier}
use Rattle.fw_frontier.specs.Front.{Front, inside}
use Rattle.fw_lines.specs.Batches.{batches_at}
use Rattle.fw_flow.specs.Dataflow.{Dataflow, receiver, system_of, out_edges}
use Rattle.fw_flow.specs.WellFormed.{IsWellFormedSystem}
use Rattle.fw_model.specs.Carried.{carried_recs}
use Rattle.fw_model.specs.History.{injected_count}
use Rattle.fw_model.specs.Machine.{Machine, events, front_of}
use Rattle.fw_model.specs.Reached.{IsReached}
use Rattle.fw_record.specs.declared.record.Event.{Event}
use Rattle.fw_record.specs.declared.record.Event.TheVariants.{Deliver, Notify}
use Rattle.fw_keep.specs.declared.entry.Entry.{Entry}
use Rattle.fw_keep.specs.declared.entry.Written.{Written}
use Rattle.fw_keep.specs.declared.entry.Written.TheVariants as written
use Rattle.fw_policy.specs.Entries.{AreEntriesOf, uncollected}
use Rattle.fw_progress.specs.declared.traces.Traces.{Traces}
use Rattle.fw_progress.specs.Trace.{HaveLists, IsTraceIf, delivered_on, stamps_notified, stamps_where_sent}

-- what is told: a stamp at which an edge's sender sent on it, one at which something was delivered on an edge, or one of which a node was
-- notified
pub data Recall : Type 0 where
  of_sending : ℕ → Stamp → Recall
  of_delivery : ℕ → Stamp → Recall
  of_notice : ℕ → Stamp → Recall

-- the traces have it
abbrev pub HasRecalled : Traces → Recall → Type 0
HasRecalled traces (of_sending e t) = Contains (stamps_where_sent traces e) t
HasRecalled traces (of_delivery e t) = Contains (delivered_on traces e) t
HasRecalled traces (of_notice p t) = Contains (stamps_notified traces p) t

-- The new traces have what the old ones have, and these, and no more.
pub record HaveRecalled (these : List Recall) (old new : Traces) : Type 0 where
  pub is : (x : Recall) → HasRecalled new x ↔ (HasRecalled old x ⊎ Contains these x)

-- The traces have a list for each edge and node, and memory was not refused to them.
pub record AreReady (flow : Dataflow) (traces : Traces) : Type 0 where
  pub lists : HaveLists flow traces
  pub ready : traces.refused ≡ false

-- what is told of an edge by a batch of these recs at a stamp: the stamp, if the edge carries one of them
abbrev pub sending_on : Dataflow → List Rec → Stamp → ℕ → List Recall
sending_on flow rs t e = if nat_lt 0 (length (carried_recs flow e rs)) then of_sending e t ∷ [] else []

-- what a batch of input p tells: its epoch on each of its out-edges that carries one of its recs, if the epoch lies outside the low
-- watermark
abbrev pub recalls_of_batch : Dataflow → ℕ → Front → List (List Rec) → ℕ → List Recall
recalls_of_batch flow p low batches x =
    if inside low (x ∷ []) then [] else flat_map (sending_on flow (slice_index_or batches x []) (x ∷ [])) (out_edges flow p)

-- what the first n batches of input p tell
abbrev pub recalls_of_input : Dataflow → ℕ → Front → List (List Rec) → ℕ → List Recall
recalls_of_input flow p low batches n = flat_map (recalls_of_batch flow p low batches) (range_with_len 0 n)

-- what the first n nodes tell, of which so many batches were injected
abbrev pub recalls_of_inputs : Dataflow → List (ℕ × List (List Rec)) → List ℕ → List Front → ℕ → List Recall
recalls_of_inputs flow given injected low n =
    flat_map (λ p. recalls_of_input flow p (front_of low p) (batches_at given p) (slice_index_or injected p 0)) (range_with_len 0 n)

-- what an event of node p tells: of a delivery the stamp, if it is on an in-edge of the node
abbrev pub recalls_of_event : Dataflow → ℕ → Event → List Recall
recalls_of_event flow p (Deliver e t rec) = if receiver flow e == p then of_delivery e t ∷ [] else []
recalls_of_event flow p (Notify t) = of_notice p t ∷ []

-- what is written of node p tells that, if it is an event
abbrev pub recalls_of_written : Dataflow → ℕ → Written → List Recall
recalls_of_written flow p (written.Checkpoint recorded stamps sent) = []
recalls_of_written flow p (written.Event event) = recalls_of_event flow p event

abbrev pub recalls_of_entry : Dataflow → Entry → List Recall
recalls_of_entry flow entry = recalls_of_written flow entry.node entry.written

-- what is told of inputs, and of the events that these writes log
abbrev pub recalls_of : Dataflow → List (ℕ × List (List Rec)) → List ℕ → List Front → List Entry → List Recall
recalls_of flow given injected low entries = recalls_of_inputs flow given injected low (length flow.nodes) ++ flat_map (recalls_of_entry flow) entries

-- The numbers, the low watermarks and the writes are those of a state to which steps of a well-formed system lead, and the traces are of no
-- event.
pub record RecallsAreOf (flow : Dataflow) (given : List (ℕ × List (List Rec))) (injected : List ℕ) (low : List Front) (entries : List Entry)
    (traces : Traces) (state : Machine) : Type 0 where
  pub well_formed : IsWellFormedSystem (system_of flow given)
  pub reached : IsReached (system_of flow given) state
  pub counts : (p : ℕ) → p < length flow.nodes → slice_index_or injected p 0 ≡ injected_count p (events state.history)
  pub lows : low ≡ state.low
  pub written : AreEntriesOf (system_of flow given) state entries (uncollected state)
  pub first : (p : ℕ) (base : Frontier) → IsTraceIf false (system_of flow given) [] p base traces
