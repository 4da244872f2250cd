-- What an event makes of what an engine keeps: its node injects a batch, takes a message in or is notified.
use Rattle.std.specs.Prelude.{◌≡◌, ℕ, ◌<◌, true, false, ◌==◌, List, length, Option, Some}
use Rattle.fw_frontier.specs.Front.{inside}
use Rattle.fw_flow.specs.declared.event.Event.{Event}
use Rattle.fw_flow.specs.declared.event.Message.{Message}
use Rattle.fw_flow.specs.declared.step.Step.{Step}
use Rattle.fw_flow.specs.Dataflow.{System, Dataflow, kind_of, policy_of, receiver, is_output_kind}
use Rattle.fw_flow.specs.Message.{messages_less}
use Rattle.fw_flow.specs.NodeFunction.{event_node}
use Rattle.fw_flow.specs.Restoring.{can_resend}
use Rattle.fw_flow.specs.WellFormed.{IsWellFormedSystem}
use Rattle.fw_model.specs.Filtering.{messages_outside}
use Rattle.fw_model.specs.History.{is_injection, message_on, IsEnabled}
use Rattle.fw_model.specs.Machine.{Machine, events, front_of, is_failed}
use Rattle.fw_model.specs.Reached.{IsReached}
use Rattle.fw_model.specs.SortedMessages.{with_messages}
use Rattle.fw_model.specs.Steps.{Effect, LeadsTo, with_event}
use Rattle.fw_record.specs.declared.record.Event.{Event as Logged}
use Rattle.fw_keep.specs.Stored.{Records}
use Rattle.fw_node.specs.Answers.{without_causes}
use Rattle.fw_progress.specs.History.{FollowsEvent}
use Rattle.fw_progress.specs.Trace.{TracesFollow}
use Rattle.fw_stands.specs.Entries.{AreBasesOf}
use Rattle.fw_stands.specs.Events.{put_on, AreSent}
use Rattle.fw_stands.specs.Parts.{IsTableIn, IsOutputOf, IsSourceOf}
use Rattle.fw_stands.specs.Written.{told_of, uncollected, AreEntriesOf, AreStored}
use Rattle.fw_running.specs.declared.running.Running.{Running}
use Rattle.fw_running.specs.Kept.{queue_at, log_at, table_of, source_of, output_of, is_down}
use Rattle.fw_running.specs.Logging.{LogsEvent}
use Rattle.fw_running.specs.Stands.{Stands}

-- What an event at which its node sends these makes of the edges: the message that it delivers is pending no more, what it sends is
-- pending where the receiver is not failed, and where the node can send it again what lies outside the receiver's low watermark is
-- logged.
pub record EdgesFollow (flow : Dataflow) (v : Event) (sent : List Message) (old new : Running) : Type 0 where
  pub queues : (e : ℕ) → e < length flow.edges → is_down old (receiver flow e) ≡ false
      → queue_at new e ≡ with_messages (put_on flow e v sent) (messages_less (queue_at old e) (message_on e v))
  pub down : (e : ℕ) → is_down old (receiver flow e) ≡ true → queue_at new e ≡ queue_at old e
  pub logs : can_resend (policy_of flow (event_node flow v)) ≡ true → (e : ℕ) → e < length flow.edges → log_at new e
      ≡ with_messages (messages_outside (inside (front_of old.parts.low (receiver flow e))) (put_on flow e v sent)) (log_at old e)
  pub logs_stay : can_resend (policy_of flow (event_node flow v)) ≡ false → (e : ℕ) → log_at new e ≡ log_at old e

-- What an event leaves as it was in this dataflow: all that is of other nodes, and what no event changes.
pub record LeavesOthers (at : Dataflow) (v : Event) (old new : Running) : Type 0 where
  pub flow : new.flow ≡ old.flow
  pub epochs : new.epochs ≡ old.epochs
  pub low : new.parts.low ≡ old.parts.low
  pub failed : new.failed.items ≡ old.failed.items
  pub lost : new.lost.items ≡ old.lost.items
  pub settled : new.progress.settled ≡ old.progress.settled
  pub tables : (p : ℕ) → (event_node at v == p) ≡ false → table_of new p ≡ table_of old p
  pub outputs : (o : ℕ) → (event_node at v == o) ≡ false → output_of new o ≡ output_of old o
  pub sources : (s : ℕ) → is_injection s v ≡ false → source_of new s ≡ source_of old s

-- The parts of node p that are its own stand for a state: its table, and what is kept of it as an output and as an input.
pub record OwnStand (sys : System) (state : Machine) (p : ℕ) (running : Running) : Type 0 where
  pub table : IsTableIn sys state p (table_of running p)
  pub output : is_output_kind (kind_of sys.flow p) ≡ true → IsOutputOf sys state p (output_of running p)
  pub source : IsSourceOf sys state p (source_of running p)

-- What an event at which its node sends these makes of the node's own parts: in each reached state in which the event may come
-- next and for which they stand, these are sent, and the parts then stand for the state with the event.
abbrev pub OwnFollow : Event → List Message → Running → Running → Type 0
OwnFollow v sent old new =
    (sys : System) (state : Machine) → sys.flow ≡ old.flow → IsWellFormedSystem sys → IsReached sys state
    → IsEnabled sys (events state.history) v → is_failed state (event_node sys.flow v) ≡ false
    → OwnStand sys state (event_node sys.flow v) old
    → AreSent sys (events state.history) v sent × OwnStand sys (with_event sys state v) (event_node sys.flow v) new

-- What an event makes of all that is kept, but for the catalogue and the places that are ready.
pub record TakesEvent (v : Event) (old new : Running) : Type 0 where
  pub sent : List Message
  pub others : LeavesOthers old.flow v old new
  pub edges : EdgesFollow old.flow v sent old new
  pub own : OwnFollow v sent old new
  pub progress : FollowsEvent old.flow v (without_causes sent) old.progress new.progress
  pub traces : TracesFollow old.flow v (without_causes sent) old.traces new.traces

-- entries and records stand for the writes of a state
abbrev pub WritesStand : System → Machine → Running → Option Records → Type 0
WritesStand sys state running records =
    let entries = running.parts.keep.entries in
    AreEntriesOf sys state entries (uncollected state) × AreBasesOf entries entries (uncollected state) × AreStored sys state records entries (uncollected state)

-- where an event may come next at a node that is not failed, an engine that takes it stands for the state with the event, if its
-- entries do
abbrev pub EventsAreFollowed : Type 0
EventsAreFollowed = (sys : System) (state : Machine) (v : Event) (old new : Running) (before after : Option Records) (step : Step) (effect : Effect)
    → Stands sys old before state → IsEnabled sys (events state.history) v → is_failed state (event_node sys.flow v) ≡ false
    → LeadsTo sys state step (with_event sys state v) effect
    → TakesEvent v old new → WritesStand sys (with_event sys state v) new after
    → Stands sys new after (with_event sys state v)

-- so they do where the event is logged, if its node logs each event
abbrev pub LoggedEventsAreFollowed : Type 0
LoggedEventsAreFollowed = (sys : System) (state : Machine) (v : Event) (old new : Running) (before after : Option Records) (step : Step) (effect : Effect)
    → Stands sys old before state → IsEnabled sys (events state.history) v → LeadsTo sys state step (with_event sys state v) effect
    → (event : Logged) → told_of v ≡ Some event
    → LogsEvent sys.flow (event_node sys.flow v) event old.parts.keep.entries new.parts.keep.entries before after
    → WritesStand sys (with_event sys state v) new after
