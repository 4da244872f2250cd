-- What a node was told: of which stamps it was notified.
use Rattle.std.specs.Prelude.{◌≡◌, Bool, true, ◌||◌, List, [], ◌∷◌}
use Rattle.std.specs.List.{list_any}
use Rattle.fw_time.specs.Stamp.{Stamp, leq, same}
use Rattle.fw_frontier.specs.Frontier.{Frontier}
use Rattle.fw_flow.specs.declared.event.Event.{Event}
use Rattle.fw_flow.specs.declared.event.Event.TheVariants.{Inject, Deliver, Notify}
use Rattle.fw_flow.specs.NodeFunction.{delivered_recs}
use Rattle.fw_model.specs.Order.{notified_stamps}

-- whether one of these events is a notification of the stamp
abbrev pub is_told : List Event → Stamp → Bool
is_told vs s = list_any (λ u. same s u) (notified_stamps vs)

-- a property of the stamps of all deliveries among these events
abbrev pub EachDelivery : (Stamp → Type 0) → List Event → Type 0
EachDelivery P [] = Unit {0}
EachDelivery P (Inject s x ∷ vs) = EachDelivery P vs
EachDelivery P (Deliver e m ∷ vs) = P m.at × EachDelivery P vs
EachDelivery P (Notify p t ∷ vs) = EachDelivery P vs

-- of each stamp inside at which these events delivered something, one of them is a notification
abbrev pub AreToldInside : Frontier → List Event → Type 0
AreToldInside f before = EachDelivery (λ s. f s ≡ true → is_told before s ≡ true) before

-- What came up to an epoch, where these are the earlier events, is what came at it, inside, and at the epochs that were told.
abbrev pub IsSumOfTold : Frontier → List Event → Stamp → Type 0
IsSumOfTold settled before t =
    delivered_recs (λ d s. leq s t) before ≡ delivered_recs (λ d s. same s t || (settled s || is_told before s)) before
