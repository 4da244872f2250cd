-- At which stamps a node sends, and from which events its messages come.
use Rattle.std.specs.Prelude.{◌≡◌, ℕ, ◌≤◌, Bool, true, false, not, List, [], ◌∷◌, ◌++◌, length, Option, Some}
use Rattle.std.specs.List.{AllByRecursion}
use Rattle.fw_time.specs.declared.stamp.Bounds.{Bounds}
use Rattle.fw_time.specs.Stamp.{leq, in_domain, Stamp}
use Rattle.fw_frontier.specs.Frontier.{Frontier}
use Rattle.fw_bag.specs.declared.rec.Rec.{Rec}
use Rattle.fw_flow.specs.declared.event.Event.{Event}
use Rattle.fw_flow.specs.declared.event.Event.TheVariants.{Notify}
use Rattle.fw_flow.specs.declared.event.Message.{Message}
use Rattle.fw_flow.specs.Kind.{Kind}
use Rattle.fw_flow.specs.declared.kind.Kind.TheVariants.{Sequence, OutputNumber, Regroup, OutputEpoch, Feedback}
use Rattle.fw_flow.specs.Dataflow.{Dataflow, is_sequence_kind, max_of, System}
use Rattle.fw_flow.specs.NodeFunction.{recs_on_notification, recs_on, sends}
use Rattle.fw_flow.specs.Projection.{all_inside, phi, IsSentTable, events_at}
use Rattle.fw_model.specs.History.{sent_messages}
use Rattle.fw_model.specs.Order.{is_notification_of}

-- A node of the kind sends at the send stamps of its events: it is no output and no sequence, a loop that it feeds back
-- has a next counter, and the groups that it makes are not empty.
abbrev pub SendsByStamp : Dataflow → Kind → Type 0
SendsByStamp flow OutputEpoch = ⊥
SendsByStamp flow OutputNumber = ⊥
SendsByStamp flow Sequence = ⊥
SendsByStamp flow (Feedback l) = 1 ≤ max_of flow l
SendsByStamp flow (Regroup n) = 1 ≤ n
SendsByStamp flow kind = Unit {0}

-- A node of the kind sends by count: it numbers what it sends, from how much it sent before. Every kind but those of
-- outputs sends by stamp or by count.
abbrev pub SendsByCount : Kind → Type 0
SendsByCount kind = kind ≡ Sequence

-- whether what an event makes a node of the kind send is at the send stamp of the event, which is its one cause: the kind is no
-- sequence
abbrev pub is_single_kind : Kind → Bool
is_single_kind kind = not (is_sequence_kind kind)

-- what a node that sends by count numbers at a notification of t, where these are its earlier events
abbrev pub recs_by_count : List Event → Stamp → List Rec
recs_by_count before t = recs_on_notification Sequence before t

-- the same at any event: nothing where it is no notification
abbrev pub recs_by_count_on : System → List Event → Event → List Rec
recs_by_count_on sys before v = recs_on sys Sequence before v

-- each stamp of the domain that sends at u or below is inside
abbrev pub IsSentFrom : Bounds → (Stamp → Option Stamp) → Frontier → Stamp → Type 0
IsSentFrom bounds send f u =
    (t s : Stamp) → in_domain bounds t ≡ true → send t ≡ Some s → leq s u ≡ true → f t ≡ true

-- some stamp inside sends at u or above
abbrev pub SendsAbove : (Stamp → Option Stamp) → Frontier → Stamp → Type 0
SendsAbove send f u = (t : Stamp) × (s : Stamp) × (f t ≡ true) × (send t ≡ Some s) × (leq u s ≡ true)

-- each stamp at t or below that sends, sends inside
abbrev pub SendsWithin : (Stamp → Option Stamp) → Frontier → Stamp → Type 0
SendsWithin send g t = (s w : Stamp) → leq s t ≡ true → send s ≡ Some w → g w ≡ true

-- each message on the edge at a stamp inside phi of the frontier comes from events inside it
abbrev pub ComesFromInside : System → List Event → ℕ → Frontier → Type 0
ComesFromInside sys h e f =
    AllByRecursion (λ (m : Message). phi sys h e f m.at ≡ true → all_inside f m.causes ≡ true) (sent_messages sys h e)

-- the table of what a node sent begins empty, takes each notification of an epoch with how many messages it made the
-- node send, and stays at each other event
pub record FollowsHistory (sys : System) (p : ℕ) : Type 0 where
  pub begins : IsSentTable sys [] p []
  pub grows : (h : List Event) (table : List (ℕ × ℕ)) (x : ℕ) → IsSentTable sys h p table
      → IsSentTable sys (Notify p (x ∷ []) ∷ h) p
      (table ++ (x, length (sends sys p (events_at sys.flow p h) (Notify p (x ∷ [])))) ∷ [])
  pub stays : (h : List Event) (table : List (ℕ × ℕ)) (v : Event) → is_notification_of p v ≡ false
      → IsSentTable sys h p table → IsSentTable sys (v ∷ h) p table
