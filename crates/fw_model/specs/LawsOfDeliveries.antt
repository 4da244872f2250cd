-- Laws of deliveries: in which order they come, and that they are those of the denotation where all has come.
use Rattle.std.specs.Prelude.{◌≡◌, ℕ, ◌≤◌, true, false, ◌&&◌, ◌==◌, List, ◌∷◌, ◌++◌}
use Rattle.std.specs.List.{AllByRecursion}
use Rattle.fw_time.specs.Stamp.{Stamp, leq}
use Rattle.fw_frontier.specs.Frontier.{Frontier}
use Rattle.fw_bag.specs.declared.rec.Rec.{Rec}
use Rattle.fw_flow.specs.declared.event.Event.{Event}
use Rattle.fw_flow.specs.declared.event.Event.TheVariants.{Notify}
use Rattle.fw_flow.specs.Dataflow.{System, is_numbered, sender, receiver, HasEpochs}
use Rattle.fw_flow.specs.NodeFunction.{event_node, event_stamp}
use Rattle.fw_flow.specs.Projection.{phi}
use Rattle.fw_flow.specs.WellFormed.{IsWellFormed, IsWellFormedSystem}
use Rattle.fw_bag.specs.Bag.{how_often}
use Rattle.fw_bag.specs.Keyed.{sorted_recs}
use Rattle.fw_model.specs.Denotation.{Family, IsDenotation, bag_at}
use Rattle.fw_model.specs.History.{IsAdmissible, IsLegal, sent_messages, delivered_messages, recs_at, IsClosedFor}
use Rattle.fw_model.specs.Order.{AreNumberedInOrder}

-- a stamp that is closed for a node of a well-formed flow with epochs stays closed as the history goes on legally
abbrev pub ClosedStampsStayClosed : Type 0
ClosedStampsStayClosed = (sys : System) (h : List Event) → IsWellFormed sys.flow → HasEpochs sys
    → (p : ℕ) (t : Stamp) → IsClosedFor sys h p t → (more : List Event) → IsLegal sys (more ++ h) → IsClosedFor sys (more ++ h) p t

-- in a well-formed flow with epochs, what was delivered to a node up to a stamp that is closed for it stays as it is while
-- the history goes on legally
abbrev pub DeliveredUpToClosedIsFinal : Type 0
DeliveredUpToClosedIsFinal = (sys : System) (h : List Event) → IsWellFormed sys.flow → HasEpochs sys
    → (p : ℕ) (t : Stamp) → IsClosedFor sys h p t → (more : List Event) → IsLegal sys (more ++ h)
    → (e : ℕ) → receiver sys.flow e ≡ p → (s : Stamp) → leq s t ≡ true → recs_at s (delivered_messages (more ++ h) e) ≡ recs_at s (delivered_messages h e)

-- in a legal history of a well-formed flow with epochs no event of a node after a notification of it is at the stamp of the
-- notification or a lesser one
abbrev pub NotificationsComeLast : Type 0
NotificationsComeLast = (sys : System) (h : List Event) → IsWellFormed sys.flow → HasEpochs sys
    → (p : ℕ) (t : Stamp) (more : List Event) → IsLegal sys (more ++ Notify p t ∷ h)
    → AllByRecursion (λ v. (event_node sys.flow v == p && leq (event_stamp v) t) ≡ false) more

-- in a legal history the deliveries on a numbered edge have the numbers 0, 1, 2 and so on in this order
abbrev pub NumberedDeliveriesAscend : Type 0
NumberedDeliveriesAscend = (sys : System) (h : List Event) → IsLegal sys h
    → (e : ℕ) → is_numbered sys.flow e ≡ true → AreNumberedInOrder (delivered_messages h e)

-- in a legal history of a well-formed system, what was sent on an edge inside phi of an admissible family is what the
-- denotation has there
abbrev pub SentInsidePhiIsDenoted : Type 0
SentInsidePhiIsDenoted = (sys : System) (h : List Event) (family : Family) → IsWellFormedSystem sys
    → IsLegal sys h → IsDenotation sys family → (done : ℕ → Frontier) → IsAdmissible sys h done
    → (e : ℕ) (t : Stamp) → phi sys h e (done (sender sys.flow e)) t ≡ true → sorted_recs (recs_at t (sent_messages sys h e)) ≡ bag_at family e t

-- in a legal history of a well-formed system, what was delivered on an edge inside an admissible family is what the
-- denotation has there
abbrev pub DeliveredInsideCompleteIsDenoted : Type 0
DeliveredInsideCompleteIsDenoted = (sys : System) (h : List Event) (family : Family) → IsWellFormedSystem sys
    → IsLegal sys h → IsDenotation sys family → (done : ℕ → Frontier) → IsAdmissible sys h done
    → (e : ℕ) (t : Stamp) → done (receiver sys.flow e) t ≡ true → sorted_recs (recs_at t (delivered_messages h e)) ≡ bag_at family e t

-- in a legal history of a well-formed system, what was delivered to a node on each in-edge up to a stamp that is closed for
-- it is what the denotation has there
abbrev pub DeliveredUpToClosedIsDenoted : Type 0
DeliveredUpToClosedIsDenoted = (sys : System) (h : List Event) (family : Family) → IsWellFormedSystem sys
    → IsLegal sys h → IsDenotation sys family → (p : ℕ) (t : Stamp) → IsClosedFor sys h p t
    → (e : ℕ) → receiver sys.flow e ≡ p → (s : Stamp) → leq s t ≡ true → sorted_recs (recs_at s (delivered_messages h e)) ≡ bag_at family e s

-- in a well-formed flow with epochs, what was delivered inside an admissible family stays as it is while the history goes
-- on legally
abbrev pub DeliveredInsideCompleteIsFinal : Type 0
DeliveredInsideCompleteIsFinal = (sys : System) (h : List Event) → IsWellFormed sys.flow → HasEpochs sys
    → (done : ℕ → Frontier) → IsAdmissible sys h done → (more : List Event) → IsLegal sys (more ++ h)
    → (e : ℕ) (t : Stamp) → done (receiver sys.flow e) t ≡ true → recs_at t (delivered_messages (more ++ h) e) ≡ recs_at t (delivered_messages h e)

-- in a legal history of a well-formed system each rec was sent on an edge at a stamp at most as often as it is in the
-- denotation there
abbrev pub SentIsSubBagOfDenotation : Type 0
SentIsSubBagOfDenotation = (sys : System) (h : List Event) (family : Family) → IsWellFormedSystem sys
    → IsLegal sys h → IsDenotation sys family
    → (e : ℕ) (t : Stamp) (r : Rec) → how_often r (recs_at t (sent_messages sys h e)) ≤ how_often r (bag_at family e t)

-- in a legal history of a well-formed system each rec was delivered on an edge at a stamp at most as often as it is in the
-- denotation there
abbrev pub DeliveredIsSubBagOfDenotation : Type 0
DeliveredIsSubBagOfDenotation = (sys : System) (h : List Event) (family : Family) → IsWellFormedSystem sys
    → IsLegal sys h → IsDenotation sys family
    → (e : ℕ) (t : Stamp) (r : Rec) → how_often r (recs_at t (delivered_messages h e)) ≤ how_often r (bag_at family e t)
