-- The events of a node that are done again after a recovery.
use Rattle.std.specs.Prelude.{◌≡◌, ℕ, true, false, List, [], ◌∷◌}
use Rattle.fw_flow.specs.declared.event.Event.{Event}
use Rattle.fw_flow.specs.declared.event.Event.TheVariants.{Inject, Deliver, Notify}
use Rattle.fw_flow.specs.declared.kind.Kind.TheVariants.{Total}
use Rattle.fw_flow.specs.Dataflow.{Dataflow, kind_of, in_edges, is_notified_kind}
use Rattle.fw_model.specs.Told.{is_told, IsSumOfTold}
use Rattle.fw_record.specs.declared.record.Event.{Event as LoggedEvent}
use Rattle.fw_node.specs.Arrived.{IsOneOf}
use Rattle.fw_record.specs.Event.{logged_events}

-- Each of these events, the latest first, can be done by node p after those before it: a delivery is on one of its in-edges,
-- nothing comes to a node at a stamp of which it was notified, it is notified of none twice, and of a total what came up to an
-- epoch came at it or at one of which it was notified.
abbrev pub CanBeDone : Dataflow → ℕ → List Event → Type 0
CanBeDone flow p [] = Unit {0}
CanBeDone flow p (Inject s x ∷ before) = ⊥
CanBeDone flow p (Deliver e m ∷ before) =
    IsOneOf (in_edges flow p) e × (is_notified_kind (kind_of flow p) ≡ true → is_told before m.at ≡ false) × CanBeDone flow p before
CanBeDone flow p (Notify q t ∷ before) =
    (q ≡ p) × (is_told before t ≡ false) × (kind_of flow p ≡ Total → IsSumOfTold (λ s. false) before t) × CanBeDone flow p before

-- These are the logged events of node p, and each can be done after those before it.
pub record AreDoneAgain (flow : Dataflow) (p : ℕ) (ls : List LoggedEvent) (events : List Event) : Type 0 where
  pub logged : logged_events events ≡ ls
  pub each : CanBeDone flow p events
