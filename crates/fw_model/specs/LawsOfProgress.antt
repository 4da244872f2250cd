-- Laws of progress: when a family of frontiers that is widened node by node is complete, and what an event leaves of it.
use Rattle.std.specs.Prelude.{◌≡◌, ◌≢◌, ◌↔◌, ℕ, ◌<◌, true, false, List, ◌∷◌, length}
use Rattle.fw_time.specs.Stamp.{Stamp, leq, lesser, in_domain}
use Rattle.fw_frontier.specs.Frontier.{Frontier}
use Rattle.fw_flow.specs.declared.event.Event.{Event}
use Rattle.fw_flow.specs.Dataflow.{System, kind_of, sender, receiver, bounds_of, is_input_kind}
use Rattle.fw_flow.specs.NodeFunction.{event_node}
use Rattle.fw_flow.specs.Projection.{phi}
use Rattle.fw_flow.specs.WellFormed.{IsWellFormed}
use Rattle.fw_model.specs.History.{is_owed_notice, injected_epochs, IsQuiet, IsAdmissible, IsComplete, IsNotifiable, IsLegal}

-- Nothing stands in the way of a stamp of node p, the other frontiers as they are: nothing is pending for the node up to it and
-- nothing is owed, an input injected it, and it arrives on each in-edge.
pub record IsOpen (sys : System) (h : List Event) (done : ℕ → Frontier) (p : ℕ) (t : Stamp) : Type 0 where
  pub of_domain : in_domain (bounds_of sys.flow p) t ≡ true
  pub quiet : (s : Stamp) → leq s t ≡ true → IsQuiet sys h p s
  pub paid : (s : Stamp) → leq s t ≡ true → is_owed_notice sys h p s ≡ false
  pub source : is_input_kind (kind_of sys.flow p) ≡ true → injected_epochs sys h p t ≡ true
  pub arrives : (e : ℕ) → e < length sys.flow.edges → receiver sys.flow e ≡ p → phi sys h e (done (sender sys.flow e)) t ≡ true

-- the frontier of node p alone can not be widened
abbrev pub IsStuck : System → List Event → (ℕ → Frontier) → ℕ → Type 0
IsStuck sys h done p = (t : Stamp) → IsOpen sys h done p t → done p t ≡ true

-- after any history of a well-formed flow an admissible family that no node alone can widen is complete, since each closed walk
-- raises a counter
abbrev pub StuckIsComplete : Type 0
StuckIsComplete = (sys : System) (h : List Event) (done : ℕ → Frontier) → IsWellFormed sys.flow → IsAdmissible sys h done
    → ((p : ℕ) → IsStuck sys h done p) → IsComplete sys h done

-- as the history of a well-formed flow goes on legally by one event, an admissible family can be widened at no other node than that
-- of the event where it could not be before
abbrev pub EventsLeaveOthersStuck : Type 0
EventsLeaveOthersStuck = (sys : System) (h : List Event) (v : Event) (done : ℕ → Frontier) → IsLegal sys (v ∷ h) → IsAdmissible sys h done
    → (p : ℕ) → p ≢ event_node sys.flow v → IsStuck sys h done p → IsStuck sys (v ∷ h) done p

-- Node p may be notified of a stamp by a family: it is owed there and at no lesser stamp, nothing is pending for it up to the stamp,
-- and the stamp arrives on each in-edge.
pub record IsNotifiableBy (sys : System) (h : List Event) (done : ℕ → Frontier) (p : ℕ) (t : Stamp) : Type 0 where
  pub is_owed : is_owed_notice sys h p t ≡ true
  pub none_lesser : (s : Stamp) → lesser s t ≡ true → is_owed_notice sys h p s ≡ false
  pub quiet : (s : Stamp) → leq s t ≡ true → IsQuiet sys h p s
  pub arrives : (d : ℕ) → receiver sys.flow d ≡ p → phi sys h d (done (sender sys.flow d)) t ≡ true

-- a node may be notified exactly where it may be by what is complete
abbrev pub NotifiableByComplete : Type 0
NotifiableByComplete = (sys : System) (h : List Event) (done : ℕ → Frontier) → IsComplete sys h done
    → (p : ℕ) (t : Stamp) → IsNotifiable sys h p t ↔ IsNotifiableBy sys h done p t
