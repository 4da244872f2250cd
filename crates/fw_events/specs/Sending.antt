-- What sending makes of what an engine keeps.
use Rattle.std.specs.Prelude.{◌≡◌, ℕ, Bool, true, false, if◌then◌else◌, List, [], ◌∷◌, length}
use Rattle.std.specs.List.{Contains}
use Rattle.fw_frontier.specs.Front.{inside}
use Rattle.fw_flow.specs.declared.event.Message.{Message}
use Rattle.fw_flow.specs.Dataflow.{Dataflow, is_one_of, receiver}
use Rattle.fw_model.specs.Carried.{carried}
use Rattle.fw_model.specs.Filtering.{messages_outside}
use Rattle.fw_model.specs.Machine.{front_of}
use Rattle.fw_model.specs.SortedMessages.{with_messages}
use Rattle.fw_edge.specs.Messages.{MessagesState}
use Rattle.fw_running.specs.declared.running.Running.{Running}
use Rattle.fw_running.specs.Kept.{queue_at, log_at, is_down}
use Rattle.fw_running.specs.Ready.{CanDeliver}

-- what is kept with these queues, and these edges as ready
abbrev pub with_queues : List MessagesState → List ℕ → Running → Running
with_queues queues edges running =
    record running { parts = record running.parts { queues = queues }; ready = record running.ready { edges = edges } }

-- what is kept with these logs
abbrev pub with_logs : List MessagesState → Running → Running
with_logs logs running = record running { parts = record running.parts { logs = logs } }

-- nothing but queues, logs and the edges that are ready is changed
abbrev pub ChangesEdges : Running → Running → Type 0
ChangesEdges old new = new ≡ with_queues new.parts.queues new.ready.edges (with_logs new.parts.logs old)

-- what edge e carries of these messages, if it is one of these
abbrev pub sent_to : Dataflow → List ℕ → ℕ → List Message → List Message
sent_to flow es e ms = if is_one_of e es then carried flow e ms else []

-- where among the ready edges were all on which something may be delivered, they still are
abbrev pub KeepsReadyEdges : Running → Running → Type 0
KeepsReadyEdges old new =
    ((e : ℕ) → CanDeliver old e → Contains old.ready.edges e) → (e : ℕ) → CanDeliver new e → Contains new.ready.edges e

-- Those of these messages that edge d carries are pending on it, and nothing else is changed on any edge.
pub record PutsOn (d : ℕ) (ms : List Message) (old new : Running) : Type 0 where
  pub each : length new.parts.queues ≡ length old.parts.queues
  pub queues : (e : ℕ) → queue_at new e ≡ with_messages (sent_to old.flow (d ∷ []) e ms) (queue_at old e)
  pub ready : KeepsReadyEdges old new

-- Of those of these messages that edge d carries those outside the receiver's low watermark are logged on it, and nothing else is changed on any edge.
pub record LogsOn (d : ℕ) (ms : List Message) (old new : Running) : Type 0 where
  pub each : length new.parts.logs ≡ length old.parts.logs
  pub logs : (e : ℕ) → log_at new e
      ≡ with_messages (messages_outside (inside (front_of old.parts.low (receiver old.flow e))) (sent_to old.flow (d ∷ []) e ms)) (log_at old e)

-- These messages are sent on these edges: those that an edge carries are pending on it, if its receiver is not failed, and where they
-- may have to be sent again those outside the receiver's low watermark are logged.
pub record SendsOn (es : List ℕ) (again : Bool) (ms : List Message) (old new : Running) : Type 0 where
  pub queues_each : length new.parts.queues ≡ length old.parts.queues
  pub logs_each : length new.parts.logs ≡ length old.parts.logs
  pub queues : (e : ℕ) → is_down old (receiver old.flow e) ≡ false → queue_at new e ≡ with_messages (sent_to old.flow es e ms) (queue_at old e)
  pub down : (e : ℕ) → is_down old (receiver old.flow e) ≡ true → queue_at new e ≡ queue_at old e
  pub logs : again ≡ true → (e : ℕ) → log_at new e
      ≡ with_messages (messages_outside (inside (front_of old.parts.low (receiver old.flow e))) (sent_to old.flow es e ms)) (log_at old e)
  pub logs_stay : again ≡ false → (e : ℕ) → log_at new e ≡ log_at old e
  pub ready : KeepsReadyEdges old new
