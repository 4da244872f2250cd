-- When an output may acknowledge, what it shows, and what is kept of it then.
use Rattle.std.specs.Prelude.{◌≡◌, ◌≢◌, ◌⊎◌, ◌↔◌, ℕ, ◌+◌, ◌<◌, ◌^◌, Bool, true, false, [], ◌∷◌, length, slice_set, ◌≤◌}
use Rattle.fw_frontier.specs.Front.{Front, inside}
use Rattle.fw_flow.specs.Kind.{Kind}
use Rattle.fw_flow.specs.declared.kind.Kind.TheVariants.{OutputNumber}
use Rattle.fw_flow.specs.Dataflow.{System, Dataflow, kind_of, batches_of, is_output_kind}
use Rattle.fw_model.specs.Machine.{Machine, front_of, is_failed}
use Rattle.fw_model.specs.Steps.{HasEpoch}
use Rattle.fw_border.specs.Outputs.{OutputState, recs_at_number}
use Rattle.fw_stands.specs.Parts.{IsOutputOf}
use Rattle.fw_stands.specs.Staying.{KeepsTables, KeepsQueues, KeepsLogs, KeepsSources, KeepsTraces, KeepsLost}

-- so many epochs are those of which some input has a batch
abbrev pub AreEpochs : System → ℕ → Type 0
AreEpochs sys epochs = (x : ℕ) → (x < epochs) ↔ HasEpoch sys.batches x

-- No source has more batches than so many, and one has no fewer.
pub record IsGreatestCount (sys : System) (count : ℕ) : Type 0 where
  pub most : (s : ℕ) → length (batches_of sys s) ≤ count
  pub some : (s : ℕ) × (count ≤ length (batches_of sys s))

-- an output has something to acknowledge at x: a rec at the number; or a batch of the epoch, or some rec
abbrev pub HasSomething : ℕ → OutputState → Kind → ℕ → Type 0
HasSomething epochs output OutputNumber x = recs_at_number output.recs x ≢ []
HasSomething epochs output kind x = (x < epochs) ⊎ (output.recs ≢ [])

-- Output o, of which this is kept and up to which front it is settled, may acknowledge its bound: it is declared and not failed,
-- the bound is a number of 32 bits and settled, and there is something to acknowledge.
pub record CanAcknowledgeBy (flow : Dataflow) (o : ℕ) (down : Bool) (epochs : ℕ) (kept : OutputState) (front : Front) : Type 0 where
  pub there : o < length flow.nodes
  pub live : down ≡ false
  pub output : is_output_kind (kind_of flow o) ≡ true
  pub number : kept.bound < 2 ^ 32
  pub settled : inside front (kept.bound ∷ []) ≡ true
  pub some : HasSomething epochs kept (kind_of flow o) kept.bound

-- so it is in a state
abbrev pub CanAcknowledgeIn : System → Machine → ℕ → ℕ → OutputState → Type 0
CanAcknowledgeIn sys state epochs o kept = CanAcknowledgeBy sys.flow o (is_failed state o) epochs kept (front_of state.settled o)

-- the state in which output o acknowledged x
abbrev pub acknowledged_state : Machine → ℕ → ℕ → Machine
acknowledged_state state o x = record state { ack_counts = slice_set state.ack_counts o (x + 1) }

-- Bounds and recs of other outputs, tables, queues, logs, inputs, traces and what is lost stay as they were.
pub record KeepsAllButOutput (sys : System) (state next : Machine) (o : ℕ) : Type 0 where
  pub others : (q : ℕ) → q ≢ o → (output : OutputState) → IsOutputOf sys state q output → IsOutputOf sys next q output
  pub tables : KeepsTables sys state next
  pub queues : KeepsQueues sys state next
  pub logs : KeepsLogs sys state next
  pub sources : KeepsSources sys state next
  pub traces : KeepsTraces sys state next
  pub lost : KeepsLost sys state next
