-- Laws of sending: at which stamps events send, and from which events the messages inside a projection come.
use Rattle.std.specs.Prelude.{◌≡◌, ◌↔◌, ◌⊎◌, ℕ, ◌<◌, true, false, List, [], ◌∷◌, length, Some}
use Rattle.std.specs.List.{AllByRecursion, Contains}
use Rattle.fw_time.specs.Stamp.{Stamp, leq, in_domain}
use Rattle.fw_frontier.specs.Frontier.{Frontier, IsFrontier, Within}
use Rattle.fw_flow.specs.declared.event.Event.{Event}
use Rattle.fw_flow.specs.declared.event.Message.{Message}
use Rattle.fw_flow.specs.Dataflow.{System, Dataflow, kind_of, sender, bounds_of, send_stamp, is_sequence_kind, bounds_of_edge}
use Rattle.fw_flow.specs.NodeFunction.{event_stamp, sends}
use Rattle.fw_flow.specs.Projection.{all_inside, phi, psi, psi_back, IsSenderFrontier}
use Rattle.fw_flow.specs.WellFormed.{IsWellFormed}
use Rattle.fw_model.specs.History.{sent_messages, AreEventsInDomain}
use Rattle.fw_model.specs.Order.{IsNotifiedInOrder}
use Rattle.fw_model.specs.Sending.{is_single_kind, SendsByStamp, IsSentFrom, SendsAbove, SendsWithin, ComesFromInside, FollowsHistory, SendsByCount}

-- in a well-formed dataflow the sender of each edge is a sequence, or sends at the send stamps of its events
abbrev pub SendersOfWellFormed : Type 0
SendersOfWellFormed = (flow : Dataflow) → IsWellFormed flow → (e : ℕ) → e < length flow.edges
    → SendsByCount (kind_of flow (sender flow e)) ⊎ SendsByStamp flow (kind_of flow (sender flow e))

-- a lesser stamp sends where a greater one of the node's domain does, and at the same stamp or a lesser one
abbrev pub SendStampIsMonotone : Type 0
SendStampIsMonotone = (flow : Dataflow) (p : ℕ) (s t w : Stamp) → in_domain (bounds_of flow p) t ≡ true
    → leq s t ≡ true → send_stamp flow p t ≡ Some w
    → (v : Stamp) × (send_stamp flow p s ≡ Some v) × (leq v w ≡ true)

-- where the sender sends at the send stamps of its events, a stamp u of the edge is inside phi of a frontier of the sender
-- exactly where each stamp of the sender that sends at u or below is inside the frontier
abbrev pub PhiBySendStamps : Type 0
PhiBySendStamps = (sys : System) (h : List Event) (e : ℕ) (f : Frontier)
    → SendsByStamp sys.flow (kind_of sys.flow (sender sys.flow e)) → IsSenderFrontier sys.flow e f
    → (u : Stamp) → in_domain (bounds_of_edge sys.flow e) u ≡ true
    → (phi sys h e f u ≡ true)
    ↔ IsSentFrom (bounds_of sys.flow (sender sys.flow e)) (send_stamp sys.flow (sender sys.flow e)) f u

-- where the sender sends at the send stamps of its events, a stamp u of the edge is inside psi of a frontier of the sender
-- exactly where some stamp inside the frontier sends at u or above
abbrev pub PsiBySendStamps : Type 0
PsiBySendStamps = (flow : Dataflow) (e : ℕ) (f : Frontier)
    → SendsByStamp flow (kind_of flow (sender flow e)) → IsSenderFrontier flow e f
    → (u : Stamp) → in_domain (bounds_of_edge flow e) u ≡ true
    → (psi flow e f u ≡ true) ↔ SendsAbove (send_stamp flow (sender flow e)) f u

-- where the sender sends at the send stamps of its events, a stamp t of the sender is inside psi_back of a frontier of the
-- edge exactly where each stamp at t or below that sends, sends inside the frontier
abbrev pub PsiBackBySendStamps : Type 0
PsiBackBySendStamps = (flow : Dataflow) (e : ℕ) (g : Frontier)
    → SendsByStamp flow (kind_of flow (sender flow e)) → IsFrontier (bounds_of_edge flow e) g
    → (t : Stamp) → in_domain (bounds_of flow (sender flow e)) t ≡ true
    → (psi_back flow e g t ≡ true) ↔ SendsWithin (send_stamp flow (sender flow e)) g t

-- where the sender sends at the send stamps of its events, psi_back of a frontier g of the edge is a frontier of the
-- sender, and the frontiers of the sender within it are those whose psi lies within g
abbrev pub PsiBackIsLargest : Type 0
PsiBackIsLargest = (flow : Dataflow) (e : ℕ) (g : Frontier)
    → SendsByStamp flow (kind_of flow (sender flow e)) → IsFrontier (bounds_of_edge flow e) g
    → IsSenderFrontier flow e (psi_back flow e g)
    × ((f : Frontier) → IsSenderFrontier flow e f → Within (psi flow e f) g ↔ Within f (psi_back flow e g))

-- each message that an event makes a node of a single kind send is at the send stamp of the event, and its one cause is the
-- event's stamp
abbrev pub SendsAtSendStamp : Type 0
SendsAtSendStamp = (sys : System) (p : ℕ) → is_single_kind (kind_of sys.flow p) ≡ true
    → (before : List Event) (v : Event)
    → AllByRecursion (λ (m : Message). (send_stamp sys.flow p (event_stamp v) ≡ Some m.at) × (m.causes ≡ event_stamp v ∷ []))
    (sends sys p before v)

-- the stamp sends at u or below
abbrev pub SendsAtMost : Dataflow → ℕ → Stamp → Stamp → Type 0
SendsAtMost flow p u t = (s : Stamp) × (send_stamp flow p t ≡ Some s) × (leq s u ≡ true)

-- Of a message that an event of node p makes it send, the event's stamp is a cause, and each cause sends at the message's stamp or
-- below.
pub record IsFromCauses (flow : Dataflow) (p : ℕ) (v : Event) (m : Message) : Type 0 where
  pub some : Contains m.causes (event_stamp v)
  pub each : AllByRecursion (SendsAtMost flow p m.at) m.causes

-- each message that an event makes a node send that is no sequence is so
abbrev pub SendsComeFromCauses : Type 0
SendsComeFromCauses = (sys : System) (p : ℕ) → is_sequence_kind (kind_of sys.flow p) ≡ false
    → (before : List Event) (v : Event) → AllByRecursion (IsFromCauses sys.flow p v) (sends sys p before v)

-- where the sender sends at the send stamps of its events, what an event inside a frontier of the sender makes it send is
-- inside psi
abbrev pub SendsAreInsidePsi : Type 0
SendsAreInsidePsi = (sys : System) (e : ℕ) (f : Frontier)
    → SendsByStamp sys.flow (kind_of sys.flow (sender sys.flow e)) → IsSenderFrontier sys.flow e f
    → (before : List Event) (v : Event) → f (event_stamp v) ≡ true
    → AllByRecursion (λ (m : Message). psi sys.flow e f m.at ≡ true) (sends sys (sender sys.flow e) before v)

-- where the sender sends at the send stamps of its events, each message on an edge that comes from events inside a frontier
-- of the sender is at a stamp inside psi
abbrev pub SentFromInsideIsInsidePsi : Type 0
SentFromInsideIsInsidePsi = (sys : System) (h : List Event) (e : ℕ) (f : Frontier)
    → SendsByStamp sys.flow (kind_of sys.flow (sender sys.flow e)) → IsSenderFrontier sys.flow e f
    → AllByRecursion (λ (m : Message). all_inside f m.causes ≡ true → psi sys.flow e f m.at ≡ true) (sent_messages sys h e)

-- where the sender sends at the send stamps of its events, and its events are at stamps of its domain, each message on an
-- edge at a stamp inside phi of a frontier of the sender comes from events inside
abbrev pub InsidePhiComesFromInside : Type 0
InsidePhiComesFromInside = (sys : System) (h : List Event) (e : ℕ) (f : Frontier)
    → SendsByStamp sys.flow (kind_of sys.flow (sender sys.flow e)) → IsSenderFrontier sys.flow e f
    → AreEventsInDomain sys.flow h (sender sys.flow e) → ComesFromInside sys h e f

-- where the sender is a sequence that injected nothing and was notified of each stamp after the lesser ones, and its events
-- are at stamps of its domain, each message on an edge at a stamp inside phi of a frontier of the sender comes from events
-- inside
abbrev pub InsidePhiOfSequenceComesFromInside : Type 0
InsidePhiOfSequenceComesFromInside = (sys : System) (h : List Event) (e : ℕ) (f : Frontier)
    → SendsByCount (kind_of sys.flow (sender sys.flow e)) → IsSenderFrontier sys.flow e f
    → AreEventsInDomain sys.flow h (sender sys.flow e) → IsNotifiedInOrder sys.flow h (sender sys.flow e)
    → ComesFromInside sys h e f

-- the table of what a sequence sent follows the history
abbrev pub SentTableFollowsHistory : Type 0
SentTableFollowsHistory = (sys : System) (p : ℕ) → SendsByCount (kind_of sys.flow p) → FollowsHistory sys p
