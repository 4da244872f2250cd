-- Laws of what is pending: it is what was sent and not delivered, and on a numbered edge it goes on where the deliveries end.
use Rattle.std.specs.Prelude.{◌≡◌, ℕ, ◌≤◌, true, ◌==◌, if◌then◌else◌, List, [], ◌∷◌, ◌++◌, length}
use Rattle.std.specs.List.{AllByRecursion}
use Rattle.fw_time.specs.Stamp.{Stamp, same}
use Rattle.fw_flow.specs.declared.event.Event.{Event}
use Rattle.fw_flow.specs.declared.event.Message.{Message}
use Rattle.fw_flow.specs.Counting.{how_many}
use Rattle.fw_flow.specs.Dataflow.{System, sender, is_numbered}
use Rattle.fw_flow.specs.NodeFunction.{event_node, sends}
use Rattle.fw_flow.specs.Projection.{events_at}
use Rattle.fw_flow.specs.WellFormed.{IsWellFormed}
use Rattle.fw_model.specs.Carried.{carried}
use Rattle.fw_model.specs.History.{IsDeliverable, IsLegal, some_at, sent_messages, message_on, delivered_messages, pending_messages}
use Rattle.fw_flow.specs.Message.{is_message_among, messages_less}
use Rattle.fw_model.specs.SortedMessages.{sorted_messages, with_messages}

-- in a legal history the messages that were sent on an edge are, as a bag, those that were delivered and those that are pending
abbrev pub SentIsDeliveredAndPending : Type 0
SentIsDeliveredAndPending = (sys : System) (h : List Event) → IsLegal sys h
    → (e : ℕ) → sorted_messages (sent_messages sys h e) ≡ sorted_messages (delivered_messages h e ++ pending_messages sys h e)

-- what an event sends on an edge, after these
abbrev pub sent_on : System → List Event → ℕ → Event → List Message
sent_on sys h e v =
    if event_node sys.flow v == sender sys.flow e then carried sys.flow e (sends sys (sender sys.flow e) (events_at sys.flow (sender sys.flow e) h) v) else []

-- as the history goes on legally, what is pending on an edge, in order, loses the message that the event delivered there, and
-- gets those that it sent there
abbrev pub PendingFollowsEvents : Type 0
PendingFollowsEvents = (sys : System) (h : List Event) (v : Event) → IsLegal sys (v ∷ h) → (e : ℕ)
    → sorted_messages (pending_messages sys (v ∷ h) e) ≡ with_messages (sent_on sys h e v) (messages_less (sorted_messages (pending_messages sys h e)) (message_on e v))

-- the message is at a number, and at n or a greater one
abbrev pub IsNumberedFrom : ℕ → Message → Type 0
IsNumberedFrom n m = (k : ℕ) × (n ≤ k) × (m.at ≡ k ∷ [])

-- What is pending on an edge goes on where its deliveries end: where a message is pending, one is at the number of how many
-- were delivered; none is at a lesser number, and at each stamp there is one alone.
pub record GoesOn (sys : System) (h : List Event) (e : ℕ) : Type 0 where
  pub next : (m : Message) → is_message_among m (pending_messages sys h e) ≡ true
      → some_at (same (length (delivered_messages h e) ∷ [])) (pending_messages sys h e) ≡ true
  pub none_lesser : AllByRecursion (IsNumberedFrom (length (delivered_messages h e))) (pending_messages sys h e)
  pub alone : (t : Stamp) → how_many (λ (m : Message). same t m.at) (pending_messages sys h e) ≤ 1

-- in a legal history of a well-formed flow what is pending on a numbered edge goes on where its deliveries end
abbrev pub PendingNumbersGoOn : Type 0
PendingNumbersGoOn = (sys : System) (h : List Event) → IsWellFormed sys.flow → IsLegal sys h
    → (e : ℕ) → is_numbered sys.flow e ≡ true → GoesOn sys h e

-- The message is the one that may be delivered on an edge.
pub record IsOnlyDeliverable (sys : System) (h : List Event) (e : ℕ) (m : Message) : Type 0 where
  pub deliverable : IsDeliverable sys h e m
  pub only : (other : Message) → IsDeliverable sys h e other → other ≡ m

-- in a legal history of a well-formed flow the least message that is pending on a numbered edge is the one that may be delivered
abbrev pub FirstPendingIsNext : Type 0
FirstPendingIsNext = (sys : System) (h : List Event) → IsWellFormed sys.flow → IsLegal sys h → (e : ℕ) → is_numbered sys.flow e ≡ true
    → (m : Message) (rest : List Message) → sorted_messages (pending_messages sys h e) ≡ m ∷ rest → IsOnlyDeliverable sys h e m
