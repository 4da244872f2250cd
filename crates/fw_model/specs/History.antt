-- The machine without failures: a history of events, the latest first, and which event may come next.
use Rattle.std.specs.Prelude.{◌≡◌, ℕ, ◌<◌, Bool, true, false, not, ◌&&◌, ◌||◌, ◌==◌, nat_lt, if◌then◌else◌, List, [], ◌∷◌, length, filter, map}
use Rattle.fw_flow.specs.Counting.{how_many}
use Rattle.std.specs.List.{flat_map, list_any, AllByRecursion}
use Rattle.fw_time.specs.Stamp.{Stamp, leq, lesser, same, in_domain}
use Rattle.fw_frontier.specs.Frontier.{Frontier, IsFrontier, Within}
use Rattle.fw_flow.specs.declared.event.Event.{Event}
use Rattle.fw_flow.specs.declared.event.Event.TheVariants.{Inject, Deliver, Notify}
use Rattle.fw_flow.specs.declared.event.Message.{Message}
use Rattle.fw_flow.specs.Dataflow.{System, Dataflow, kind_of, sender, receiver, bounds_of, is_notified_kind, is_input_kind, is_numbered, batches_of}
use Rattle.fw_flow.specs.NodeFunction.{sent_by, event_node, event_stamp}
use Rattle.fw_flow.specs.Message.{is_message_among, messages_less}
use Rattle.fw_flow.specs.Projection.{events_at, phi, first_coordinate}
use Rattle.fw_bag.specs.declared.rec.Rec.{Rec}
use Rattle.fw_model.specs.Carried.{carried}

-- whether one of the messages is at a stamp that passes the test
abbrev pub some_at : (Stamp → Bool) → List Message → Bool
some_at test ms = list_any (λ m. test m.at) ms

-- what the events of a history sent on an edge: what it carries of what its sender sent
abbrev pub sent_messages : System → List Event → ℕ → List Message
sent_messages sys h e = carried sys.flow e (sent_by sys (sender sys.flow e) (events_at sys.flow (sender sys.flow e) h))

-- the message that an event delivered on edge e, if it did
abbrev pub message_on : ℕ → Event → List Message
message_on e (Inject s x) = []
message_on e (Deliver d m) = if d == e then m ∷ [] else []
message_on e (Notify p t) = []

-- what was delivered on an edge
abbrev pub delivered_messages : List Event → ℕ → List Message
delivered_messages h e = flat_map (message_on e) h

-- what is pending on an edge: what was sent less what was delivered
abbrev pub pending_messages : System → List Event → ℕ → List Message
pending_messages sys h e = messages_less (sent_messages sys h e) (delivered_messages h e)

-- whether an event is a delivery to node p at stamp t
abbrev pub is_delivery_to : Dataflow → ℕ → Stamp → Event → Bool
is_delivery_to flow p t (Inject s x) = false
is_delivery_to flow p t (Deliver e m) = receiver flow e == p && same m.at t
is_delivery_to flow p t (Notify q s) = false

-- whether an event is a notification of node p of stamp t
abbrev pub is_notification : ℕ → Stamp → Event → Bool
is_notification p t (Inject s x) = false
is_notification p t (Deliver e m) = false
is_notification p t (Notify q s) = q == p && same s t

-- whether a message was delivered to node p at stamp t
abbrev pub was_delivered_to : Dataflow → ℕ → Stamp → List Event → Bool
was_delivered_to flow p t h = list_any (is_delivery_to flow p t) h

-- whether node p was notified of stamp t
abbrev pub was_notified : ℕ → Stamp → List Event → Bool
was_notified p t h = list_any (is_notification p t) h

-- whether node p is owed a notification of stamp t: its kind waits for it, a message came at t, and it was not notified
abbrev pub is_owed_notice : System → List Event → ℕ → Stamp → Bool
is_owed_notice sys h p t =
    is_notified_kind (kind_of sys.flow p) && was_delivered_to sys.flow p t h && not (was_notified p t h)

-- whether an event is an injection of source s
abbrev pub is_injection : ℕ → Event → Bool
is_injection s (Inject q x) = q == s
is_injection s (Deliver e m) = false
is_injection s (Notify p t) = false

-- how many batches of source s were injected
abbrev pub injected_count : ℕ → List Event → ℕ
injected_count s h = how_many (is_injection s) h

-- whether each batch of source s was injected
abbrev pub is_exhausted : System → List Event → ℕ → Bool
is_exhausted sys h s = injected_count s h == length (batches_of sys s)

-- the epochs that source s injected; all once it is exhausted
abbrev pub injected_epochs : System → List Event → ℕ → Frontier
injected_epochs sys h s t =
    in_domain (bounds_of sys.flow s) t && (is_exhausted sys h s || nat_lt (first_coordinate t) (injected_count s h))

-- nothing is pending for node p at stamp t
abbrev pub IsQuiet : System → List Event → ℕ → Stamp → Type 0
IsQuiet sys h p t = (e : ℕ) → receiver sys.flow e ≡ p → some_at (same t) (pending_messages sys h e) ≡ false

-- A family of frontiers, one for each node, inside which all has come: nothing is pending, nothing is owed, and what may
-- still come is outside.
pub record IsAdmissible (sys : System) (h : List Event) (done : ℕ → Frontier) : Type 0 where
  pub frontier : (p : ℕ) → IsFrontier (bounds_of sys.flow p) (done p)
  pub quiet : (p : ℕ) (t : Stamp) → done p t ≡ true → IsQuiet sys h p t
  pub paid : (p : ℕ) (t : Stamp) → done p t ≡ true → is_owed_notice sys h p t ≡ false
  pub follows : (e : ℕ) → Within (done (receiver sys.flow e)) (phi sys h e (done (sender sys.flow e)))
  pub source : (s : ℕ) → is_input_kind (kind_of sys.flow s) ≡ true → Within (done s) (injected_epochs sys h s)

-- the complete frontiers: the largest admissible family
pub record IsComplete (sys : System) (h : List Event) (done : ℕ → Frontier) : Type 0 where
  pub admissible : IsAdmissible sys h done
  pub largest : (other : ℕ → Frontier) → IsAdmissible sys h other → (p : ℕ) → Within (other p) (done p)

-- source s may inject its batch x: it is its next one
pub record IsNextBatch (sys : System) (h : List Event) (s x : ℕ) : Type 0 where
  pub input : is_input_kind (kind_of sys.flow s) ≡ true
  pub next : x ≡ injected_count s h
  pub there : x < length (batches_of sys s)

-- a message may be delivered on edge e: it is pending, and on a numbered edge it is the next number
pub record IsDeliverable (sys : System) (h : List Event) (e : ℕ) (m : Message) : Type 0 where
  pub is_pending : is_message_among m (pending_messages sys h e) ≡ true
  pub numbered : is_numbered sys.flow e ≡ true → m.at ≡ length (delivered_messages h e) ∷ []

-- Node p may be notified of stamp t: it is owed there and at no lesser stamp, nothing is pending for it up to t, and t is
-- complete before it.
pub record IsNotifiable (sys : System) (h : List Event) (p : ℕ) (t : Stamp) : Type 0 where
  pub is_owed : is_owed_notice sys h p t ≡ true
  pub none_lesser : (s : Stamp) → lesser s t ≡ true → is_owed_notice sys h p s ≡ false
  pub quiet : (s : Stamp) → leq s t ≡ true → IsQuiet sys h p s
  pub complete : (done : ℕ → Frontier) × IsAdmissible sys h done
      × ((d : ℕ) → receiver sys.flow d ≡ p → phi sys h d (done (sender sys.flow d)) t ≡ true)

-- the event may come next
abbrev pub IsEnabled : System → List Event → Event → Type 0
IsEnabled sys h (Inject s x) = IsNextBatch sys h s x
IsEnabled sys h (Deliver e m) = IsDeliverable sys h e m
IsEnabled sys h (Notify p t) = IsNotifiable sys h p t

-- each event was enabled after those before it
abbrev pub IsLegal : System → List Event → Type 0
IsLegal sys [] = Unit {0}
IsLegal sys (v ∷ h) = IsEnabled sys h v × IsLegal sys h

-- each event is at a stamp of its node's domain
abbrev pub AreAtNodes : Dataflow → List Event → Type 0
AreAtNodes flow h = AllByRecursion (λ v. in_domain (bounds_of flow (event_node flow v)) (event_stamp v) ≡ true) h

-- the recs of the messages at a stamp
abbrev pub recs_at : Stamp → List Message → List Rec
recs_at t ms = map (λ (m : Message). m.rec) (filter (λ (m : Message). same t m.at) ms)

-- A stamp is closed for a node: nothing is pending for the node up to it, and it is complete before the node.
pub record IsClosedFor (sys : System) (h : List Event) (p : ℕ) (t : Stamp) : Type 0 where
  pub quiet : (s : Stamp) → leq s t ≡ true → IsQuiet sys h p s
  pub complete : (done : ℕ → Frontier) × IsAdmissible sys h done
      × ((d : ℕ) → receiver sys.flow d ≡ p → phi sys h d (done (sender sys.flow d)) t ≡ true)

-- each event of the node is at a stamp of its domain
abbrev pub AreEventsInDomain : Dataflow → List Event → ℕ → Type 0
AreEventsInDomain flow h p =
    AllByRecursion (λ v. in_domain (bounds_of flow p) (event_stamp v) ≡ true) (events_at flow p h)
