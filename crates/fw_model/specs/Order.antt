-- In which order messages are delivered on an edge, and a node is notified.
use Rattle.std.specs.Prelude.{◌≡◌, ℕ, Bool, true, false, ◌==◌, List, [], ◌∷◌, length}
use Rattle.std.specs.List.{AllByRecursion}
use Rattle.fw_time.specs.Stamp.{Stamp, leq}
use Rattle.fw_flow.specs.declared.event.Event.{Event}
use Rattle.fw_flow.specs.declared.event.Event.TheVariants.{Inject, Deliver, Notify}
use Rattle.fw_flow.specs.declared.event.Message.{Message}
use Rattle.fw_flow.specs.Dataflow.{Dataflow}
use Rattle.fw_flow.specs.Projection.{events_at}
use Rattle.fw_model.specs.History.{injected_count}

-- the messages, the latest first, have the numbers from 0 on
abbrev pub AreNumberedInOrder : List Message → Type 0
AreNumberedInOrder [] = Unit {0}
AreNumberedInOrder (m ∷ ms) = (m.at ≡ length ms ∷ []) × AreNumberedInOrder ms

-- whether the event is a notification of the node
abbrev pub is_notification_of : ℕ → Event → Bool
is_notification_of p (Inject s x) = false
is_notification_of p (Deliver e m) = false
is_notification_of p (Notify q t) = q == p

-- the stamps of the notifications among these events, the latest first
abbrev pub notified_stamps : List Event → List Stamp
notified_stamps [] = []
notified_stamps (Inject s x ∷ vs) = notified_stamps vs
notified_stamps (Deliver e m ∷ vs) = notified_stamps vs
notified_stamps (Notify p t ∷ vs) = t ∷ notified_stamps vs

-- each stamp is the same as the stamps that follow it, or greater
abbrev pub AreDescending : List Stamp → Type 0
AreDescending [] = Unit {0}
AreDescending (t ∷ ts) = AllByRecursion (λ s. leq s t ≡ true) ts × AreDescending ts

-- the node injected nothing, and was notified of each stamp after the lesser ones
pub record IsNotifiedInOrder (flow : Dataflow) (h : List Event) (p : ℕ) : Type 0 where
  pub injects_nothing : injected_count p h ≡ 0
  pub in_order : AreDescending (notified_stamps (events_at flow p h))
