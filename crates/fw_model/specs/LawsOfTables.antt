-- Laws of the tables that nodes keep: what came to a node, and of what it was told.
use Rattle.std.specs.Prelude.{◌≡◌, ℕ, true, false, List}
use Rattle.fw_time.specs.Stamp.{Stamp, in_domain}
use Rattle.fw_frontier.specs.Frontier.{Frontier}
use Rattle.fw_flow.specs.declared.event.Event.{Event}
use Rattle.fw_flow.specs.declared.kind.Kind.TheVariants.{Total}
use Rattle.fw_flow.specs.declared.step.Step.{Step}
use Rattle.fw_flow.specs.Dataflow.{System, kind_of, bounds_of, node_frontier, is_notified_kind, HasEpochs}
use Rattle.fw_flow.specs.NodeFunction.{event_node, event_stamp}
use Rattle.fw_flow.specs.Projection.{events_at}
use Rattle.fw_flow.specs.WellFormed.{IsWellFormed, IsWellFormedSystem}
use Rattle.fw_model.specs.Filtering.{events_inside}
use Rattle.fw_model.specs.History.{IsEnabled, IsLegal, IsNotifiable}
use Rattle.fw_model.specs.Machine.{Machine, events, first_state, front_of}
use Rattle.fw_model.specs.Steps.{Outcome, Run}
use Rattle.fw_model.specs.Told.{is_told, EachDelivery, AreToldInside, IsSumOfTold}

-- in a legal history of a well-formed flow with epochs an event that may come next at a node that is notified is at no stamp
-- of which the node was notified
abbrev pub NothingComesAfterItsNotice : Type 0
NothingComesAfterItsNotice = (sys : System) (h : List Event) → IsWellFormed sys.flow → HasEpochs sys → IsLegal sys h
    → (p : ℕ) → is_notified_kind (kind_of sys.flow p) ≡ true → (v : Event) → IsEnabled sys h v → event_node sys.flow v ≡ p
    → is_told (events_at sys.flow p h) (event_stamp v) ≡ false

-- in each state to which steps of a well-formed system lead from the first one, a node that is notified was notified of each
-- stamp inside what is settled at which something was delivered to it
abbrev pub SettledIsTold : Type 0
SettledIsTold = (sys : System) → IsWellFormedSystem sys → (steps : List Step) (outcomes : List Outcome) (last : Machine)
    → Run sys (first_state sys) steps outcomes last → (p : ℕ) → is_notified_kind (kind_of sys.flow p) ≡ true
    → AreToldInside (node_frontier sys.flow p (front_of last.settled p)) (events_at sys.flow p (events last.history))

-- in each state to which steps of a well-formed system lead from the first one, where a total may be notified of an epoch, what
-- was delivered to it up to the epoch is what came at it, inside what is settled, and at the epochs of which it was notified
abbrev pub TotalsSumWhatWasTold : Type 0
TotalsSumWhatWasTold = (sys : System) → IsWellFormedSystem sys → (steps : List Step) (outcomes : List Outcome) (last : Machine)
    → Run sys (first_state sys) steps outcomes last → (p : ℕ) → kind_of sys.flow p ≡ Total
    → (t : Stamp) → IsNotifiable sys (events last.history) p t
    → IsSumOfTold (node_frontier sys.flow p (front_of last.settled p)) (events_at sys.flow p (events last.history)) t

-- in a legal history of a well-formed flow with epochs each delivery among the events of a node inside a frontier is at a
-- stamp of the node's domain inside it
abbrev pub DeliveriesLieInside : Type 0
DeliveriesLieInside = (sys : System) (h : List Event) → IsWellFormed sys.flow → HasEpochs sys → IsLegal sys h → (p : ℕ) (f : Frontier)
    → EachDelivery (λ s. (f s ≡ true) × (in_domain (bounds_of sys.flow p) s ≡ true)) (events_inside f (events_at sys.flow p h))
