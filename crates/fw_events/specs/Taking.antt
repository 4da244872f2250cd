-- What becomes of the parts where a node takes an event in.
use Rattle.std.specs.Prelude.{◌≡◌, ◌≢◌, ℕ, ◌≤◌, ◌^◌, List, [], ◌∷◌, Option, Some, None}
use Rattle.fw_time.specs.Stamp.{Stamp}
use Rattle.fw_bag.specs.declared.rec.Rec.{Rec}
use Rattle.fw_flow.specs.declared.event.Event.{Event}
use Rattle.fw_flow.specs.declared.event.Event.TheVariants.{Deliver}
use Rattle.fw_flow.specs.declared.event.Message.{Message}
use Rattle.fw_flow.specs.Dataflow.{System, Dataflow, out_edges, policy_of, receiver}
use Rattle.fw_flow.specs.Message.{messages_without}
use Rattle.fw_flow.specs.NodeFunction.{event_node}
use Rattle.fw_flow.specs.Projection.{first_coordinate}
use Rattle.fw_flow.specs.Restoring.{can_resend}
use Rattle.fw_flow.specs.WellFormed.{IsWellFormedSystem}
use Rattle.fw_model.specs.History.{IsEnabled}
use Rattle.fw_model.specs.Machine.{Machine, events}
use Rattle.fw_model.specs.Reached.{IsReached}
use Rattle.fw_model.specs.Steps.{with_event}
use Rattle.fw_border.specs.Outputs.{OutputsState, with_output, with_rec_at}
use Rattle.fw_border.specs.Sources.{SourceState, next_batch}
use Rattle.fw_node.specs.declared.node.Node.{Node}
use Rattle.fw_node.specs.declared.sends.Sends.{Sends}
use Rattle.fw_node.specs.Answers.{without_causes}
use Rattle.fw_node.specs.Sends.{messages_of}
use Rattle.fw_progress.specs.declared.traces.Traces.{Traces}
use Rattle.fw_progress.specs.History.{FollowsEvent}
use Rattle.fw_progress.specs.Progress.{Standing}
use Rattle.fw_progress.specs.Trace.{TracesFollow}
use Rattle.fw_stands.specs.Events.{at_epoch, AreSent}
use Rattle.fw_stands.specs.Parts.{IsTableIn}
use Rattle.fw_running.specs.declared.running.Running.{Running}
use Rattle.fw_running.specs.Kept.{queue_at, table_of, with_tables}
use Rattle.fw_events.specs.Sending.{ChangesEdges, SendsOn}

-- what is kept with these nodes as owing
abbrev pub with_owing : List ℕ → Running → Running
with_owing owing running = record running { ready = record running.ready { owing = owing } }

-- what is kept with these outputs, and these of them as ready
abbrev pub with_outputs : OutputsState → List ℕ → Running → Running
with_outputs outputs ready running =
    record running { parts = record running.parts { outputs = outputs }; ready = record running.ready { outputs = ready } }

-- what is kept with these inputs
abbrev pub with_sources : List SourceState → Running → Running
with_sources sources running = record running { parts = record running.parts { sources = sources } }

-- what is pending without the message that is found, if one is
abbrev pub without_found : Option Message → List Message → List Message
without_found None ms = ms
without_found (Some m) ms = messages_without m ms

-- what is kept with these traces and this progress
abbrev pub with_told : Traces → Standing → Running → Running
with_told traces progress running = record running { traces = traces; progress = progress }

-- The message is pending on edge d no more, and nothing else is changed on any edge.
pub record TakesOff (d : ℕ) (m : Message) (old new : Running) : Type 0 where
  pub queue : queue_at new d ≡ messages_without m (queue_at old d)
  pub others : (e : ℕ) → e ≢ d → queue_at new e ≡ queue_at old e

-- A table takes an event in, and these are sent: in each reached state in which the event may come next and whose table it is, these
-- are what the event makes its node send, and it is then the table of the state with the event.
abbrev pub TableTakes : Dataflow → Event → List Message → Option Node → Option Node → Type 0
TableTakes flow v sent old new =
    (sys : System) (state : Machine) → sys.flow ≡ flow → IsWellFormedSystem sys → IsReached sys state → IsEnabled sys (events state.history) v
    → IsTableIn sys state (event_node sys.flow v) old
    → AreSent sys (events state.history) v sent × IsTableIn sys (with_event sys state v) (event_node sys.flow v) new

-- Traces and progress are told of an event at which its node sends these recs.
pub record TellsOf (v : Event) (sent : List (Stamp × Rec)) (old new : Running) : Type 0 where
  pub progress : FollowsEvent old.flow v sent old.progress new.progress
  pub traces : TracesFollow old.flow v sent old.traces new.traces
  pub settled : new.progress.settled ≡ old.progress.settled
  pub kept : new.progress.kept ≡ old.progress.kept

-- The node of an event takes it in: its table does, what it sends is sent on its out-edges, and traces and progress are told of it.
pub record HearsOf (v : Event) (old new : Running) : Type 0 where
  pub sent : List Message
  pub taken : Running
  pub put : Running
  pub changing : taken ≡ with_tables taken.parts.tables (with_owing taken.ready.owing old)
  pub tables : (p : ℕ) → p ≢ event_node old.flow v → table_of taken p ≡ table_of old p
  pub table : TableTakes old.flow v sent (table_of old (event_node old.flow v)) (table_of taken (event_node old.flow v))
  pub sending : ChangesEdges taken put
  pub sends : SendsOn (out_edges old.flow (event_node old.flow v)) (can_resend (policy_of old.flow (event_node old.flow v))) sent taken put
  pub telling : new ≡ with_told new.traces new.progress put
  pub told : TellsOf v (without_causes sent) put new

-- An output keeps the rec of a message, and traces and progress are told of its delivery on edge d.
pub record KeepsRec (d : ℕ) (m : Message) (old new : Running) : Type 0 where
  pub between : Running
  pub changing : between ≡ with_outputs between.parts.outputs between.ready.outputs old
  pub output : between.parts.outputs.outputs
      ≡ with_output (with_rec_at (first_coordinate m.at) m.rec) old.parts.outputs.outputs (receiver old.flow d)
  pub telling : new ≡ with_told new.traces new.progress between
  pub told : TellsOf (Deliver d m) [] between new

-- This is the batch of an input that is next, with its epoch, as it is sent.
pub record IsNextSent (source : SourceState) (epoch : ℕ) (sends : Sends) : Type 0 where
  pub batch : List Rec
  pub next : next_batch source ≡ Some batch
  pub injected : source.injected ≡ epoch
  pub sent : messages_of (epoch ∷ []) sends ≡ at_epoch epoch batch

-- the batch that is found is the one that is next; where there is none, none is next of at most 2^20
abbrev pub FindsBatch : SourceState → Option (ℕ × Sends) → Type 0
FindsBatch source None = source.given ≤ 2 ^ 20 → next_batch source ≡ None
FindsBatch source (Some found) = IsNextSent source found.0 found.1
