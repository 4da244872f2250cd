-- What becomes of each part of an engine where a node injects a batch, takes a message in or is notified.
use Rattle.std.specs.Prelude.{◌≡◌, ℕ, ◌<◌, true, false, ◌==◌, if◌then◌else◌, List, [], ◌∷◌, find, map, length, Option, Some, None, slice_index_or}
use Rattle.fw_time.specs.Stamp.{Stamp, in_domain}
use Rattle.fw_bag.specs.declared.rec.Rec.{Rec}
use Rattle.fw_frontier.specs.Front.{inside}
use Rattle.fw_flow.specs.declared.event.Event.{Event}
use Rattle.fw_flow.specs.declared.event.Event.TheVariants.{Inject as Injected, Deliver as Delivered}
use Rattle.fw_flow.specs.declared.event.Message.{Message}
use Rattle.fw_flow.specs.declared.kind.Kind.TheVariants.{Total}
use Rattle.fw_flow.specs.declared.step.Step.TheVariants.{Inject, Deliver}
use Rattle.fw_flow.specs.Dataflow.{System, Dataflow, batches_of, bounds_of, in_edges, kind_of, sender, receiver, is_input_kind, is_notified_kind, is_numbered, is_output_kind}
use Rattle.fw_flow.specs.Message.{messages_less}
use Rattle.fw_flow.specs.NodeFunction.{event_node, sends}
use Rattle.fw_flow.specs.Projection.{events_at}
use Rattle.fw_model.specs.Carried.{carried}
use Rattle.fw_model.specs.Filtering.{messages_outside}
use Rattle.fw_model.specs.History.{message_on, IsEnabled}
use Rattle.fw_model.specs.Machine.{Machine, events, front_of, is_failed}
use Rattle.fw_model.specs.SortedMessages.{sorted_messages, with_messages}
use Rattle.fw_model.specs.Steps.{silent, did, idle, is_asked, StepsTo, with_event}
use Rattle.fw_model.specs.Told.{is_told, IsSumOfTold}
use Rattle.fw_node.specs.Answers.{caused_by}
use Rattle.fw_node.specs.Arrived.{IsOneOf}
use Rattle.fw_stands.specs.Parts.{queued, is_logging, logged, table_base}

-- ---- what is delivered

-- what is asked of the queue of edge e, where this is asked for: on a numbered edge the first of all
abbrev pub asked_of_queue : Dataflow → ℕ → Option Stamp → Option Stamp
asked_of_queue flow e at = if is_numbered flow e then None else at

-- the message, if it is asked for
abbrev pub if_asked : Option Stamp → Option Message → Option Message
if_asked at None = None
if_asked at (Some m) = if is_asked at m.at then Some m else None

-- what is delivered next on edge e from its queue, where this is asked for: the first message that is; on a numbered edge the
-- first of all, if it is
abbrev pub next_queued : Dataflow → ℕ → Option Stamp → List Message → Option Message
next_queued flow e at queue = if_asked at (find (λ (m : Message). is_asked (asked_of_queue flow e at) m.at) queue)

-- the step of a delivery, by what the queue has next: the message is delivered; where there is none the step is idle
abbrev pub IsDeliveryOf : System → Machine → ℕ → Option Stamp → Option Message → Type 0
IsDeliveryOf sys state e at None = StepsTo sys state (Deliver e at) state idle
IsDeliveryOf sys state e at (Some m) = StepsTo sys state (Deliver e at) (with_event sys state (Delivered e m)) (did silent)

-- ---- what is sent

-- what an event makes its node send, after this history
abbrev pub sends_at : System → List Event → Event → List Message
sends_at sys h v = sends sys (event_node sys.flow v) (events_at sys.flow (event_node sys.flow v) h) v

-- these messages are what an event makes its node send, in whatever order
abbrev pub AreSent : System → List Event → Event → List Message → Type 0
AreSent sys h v sent = sorted_messages sent ≡ sorted_messages (sends_at sys h v)

-- the recs of a batch as messages at their epoch
abbrev pub at_epoch : ℕ → List Rec → List Message
at_epoch x rs = caused_by (x ∷ []) (map (λ r. (x ∷ [], r)) rs)

-- ---- queues and logs

-- what comes to edge e from an event at which its node sends these: what it carries of them
abbrev pub put_on : Dataflow → ℕ → Event → List Message → List Message
put_on flow e v sent = if event_node flow v == sender flow e then carried flow e sent else []

-- The queue of edge e after an event at which its node sends these: without the message that the event delivered there, and with
-- those that it sends there; empty where the receiver is failed.
pub record QueueFollows (sys : System) (state : Machine) (v : Event) (sent : List Message) (e : ℕ) : Type 0 where
  pub live : is_failed state (receiver sys.flow e) ≡ false → queued sys (with_event sys state v) e
      ≡ with_messages (put_on sys.flow e v sent) (messages_less (queued sys state e) (message_on e v))
  pub failed : is_failed state (receiver sys.flow e) ≡ true → queued sys (with_event sys state v) e ≡ []

-- The log of edge e after an event at which its node sends these: with those of them that lie outside the receiver's low
-- watermark, where the sender logs; empty where it does not.
pub record LogFollows (sys : System) (state : Machine) (v : Event) (sent : List Message) (e : ℕ) : Type 0 where
  pub logging : is_logging sys state e ≡ true → logged sys (with_event sys state v) e
      ≡ with_messages (messages_outside (inside (front_of state.low (receiver sys.flow e))) (put_on sys.flow e v sent)) (logged sys state e)
  pub not_logging : is_logging sys state e ≡ false → logged sys (with_event sys state v) e ≡ []

-- ---- sources

-- the step of an injection, by the batch that is next: that of the epoch after those injected; where there is none the step is idle
abbrev pub IsInjectionOf : System → Machine → ℕ → ℕ → Option (List Rec) → Type 0
IsInjectionOf sys state s x None = StepsTo sys state (Inject s) state idle
IsInjectionOf sys state s x (Some batch) =
    IsEnabled sys (events state.history) (Injected s x) × (batch ≡ slice_index_or (batches_of sys s) x [])
    × StepsTo sys state (Inject s) (with_event sys state (Injected s x)) (did silent)

-- ---- tables

-- A delivery that may come next meets what its node asks: it is on an in-edge of the node, which is no input, at a stamp of its
-- domain that is not settled into its table and, where the node is notified, of which it was not.
pub record CanTakeIn (sys : System) (state : Machine) (e : ℕ) (m : Message) : Type 0 where
  pub edge : e < length sys.flow.edges
  pub declared : receiver sys.flow e < length sys.flow.nodes
  pub no_input : is_input_kind (kind_of sys.flow (receiver sys.flow e)) ≡ false
  pub on_edge : IsOneOf (in_edges sys.flow (receiver sys.flow e)) e
  pub in_the_domain : in_domain (bounds_of sys.flow (receiver sys.flow e)) m.at ≡ true
  pub unsettled : table_base sys state (receiver sys.flow e) m.at ≡ false
  pub untold : is_notified_kind (kind_of sys.flow (receiver sys.flow e)) ≡ true
      → is_told (events_at sys.flow (receiver sys.flow e) (events state.history)) m.at ≡ false

-- A notification that may come next meets what its node asks: the node is notified, and is no input and no output; the stamp is one
-- of its domain that is not settled into its table, and of which it was not notified; and a total has the sum of what it was told.
pub record CanTakeNotice (sys : System) (state : Machine) (p : ℕ) (t : Stamp) : Type 0 where
  pub declared : p < length sys.flow.nodes
  pub notified : is_notified_kind (kind_of sys.flow p) ≡ true
  pub no_input : is_input_kind (kind_of sys.flow p) ≡ false
  pub no_output : is_output_kind (kind_of sys.flow p) ≡ false
  pub in_the_domain : in_domain (bounds_of sys.flow p) t ≡ true
  pub unsettled : table_base sys state p t ≡ false
  pub untold : is_told (events_at sys.flow p (events state.history)) t ≡ false
  pub sums : kind_of sys.flow p ≡ Total
      → IsSumOfTold (table_base sys state p) (events_at sys.flow p (events state.history)) t
