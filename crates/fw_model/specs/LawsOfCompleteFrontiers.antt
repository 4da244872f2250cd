-- Laws of complete frontiers: where all has come nothing more comes, and what follows for sequences.
use Rattle.std.specs.Prelude.{◌≡◌, ℕ, false, List, ◌∷◌}
use Rattle.fw_frontier.specs.Frontier.{Frontier}
use Rattle.fw_flow.specs.declared.event.Event.{Event}
use Rattle.fw_flow.specs.Dataflow.{System, kind_of, HasEpochs}
use Rattle.fw_flow.specs.NodeFunction.{event_node, event_stamp}
use Rattle.fw_flow.specs.WellFormed.{IsWellFormed}
use Rattle.fw_model.specs.History.{IsAdmissible, IsEnabled, IsLegal}
use Rattle.fw_flow.specs.Projection.{IsSenderFrontier}
use Rattle.fw_model.specs.Sending.{ComesFromInside, SendsByCount}
use Rattle.fw_model.specs.Order.{IsNotifiedInOrder}

-- after any history, legal or not, an enabled event is outside each admissible family: nothing comes where all has come
abbrev pub EnabledIsOutside : Type 0
EnabledIsOutside = (sys : System) (h : List Event) (done : ℕ → Frontier) → IsAdmissible sys h done
    → (v : Event) → IsEnabled sys h v → done (event_node sys.flow v) (event_stamp v) ≡ false

-- after a legal history of a well-formed flow with epochs an enabled event leaves each admissible family admissible: it
-- lowers no complete frontier
abbrev pub AdmissibleStaysAdmissible : Type 0
AdmissibleStaysAdmissible = (sys : System) (h : List Event) → IsWellFormed sys.flow → HasEpochs sys → IsLegal sys h
    → (done : ℕ → Frontier) → IsAdmissible sys h done → (v : Event) → IsEnabled sys h v → IsAdmissible sys (v ∷ h) done

-- in a legal history of a well-formed flow with epochs each sequence injects nothing and is notified of each stamp after
-- the lesser ones
abbrev pub SequencesAreNotifiedInOrder : Type 0
SequencesAreNotifiedInOrder = (sys : System) (h : List Event) → IsWellFormed sys.flow → HasEpochs sys → IsLegal sys h
    → (p : ℕ) → SendsByCount (kind_of sys.flow p) → IsNotifiedInOrder sys.flow h p

-- in a legal history of a well-formed flow with epochs each message on an edge at a stamp inside phi of a frontier of the
-- sender comes from events inside
abbrev pub LegalInsidePhiComesFromInside : Type 0
LegalInsidePhiComesFromInside = (sys : System) (h : List Event) → IsWellFormed sys.flow → HasEpochs sys
    → IsLegal sys h → (e : ℕ) (f : Frontier) → IsSenderFrontier sys.flow e f → ComesFromInside sys h e f
