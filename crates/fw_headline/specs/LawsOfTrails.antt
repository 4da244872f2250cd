-- Laws of trails: in each state that the machine reaches, what it offers has exactly one trail, and that ends at the largest choice.
use Rattle.std.specs.Prelude.{◌≡◌, ℕ, Bool, List}
use Rattle.fw_flow.specs.declared.choice.Choice.{Choice}
use Rattle.fw_flow.specs.declared.step.Step.{Step}
use Rattle.fw_flow.specs.declared.trail.Lowering.{Lowering}
use Rattle.fw_flow.specs.Dataflow.{System}
use Rattle.fw_flow.specs.WellFormed.{IsWellFormed, IsWellFormedSystem}
use Rattle.fw_model.specs.Certificates.{IsTrailBy}
use Rattle.fw_model.specs.Choice.{kept, IsCandidate, IsLargest}
use Rattle.fw_model.specs.Covers.{covers_in}
use Rattle.fw_model.specs.Machine.{Machine, first_state}
use Rattle.fw_model.specs.Steps.{Outcome, Run}

-- the lowerings are the trail from what the machine offers in a state, where these nodes count as failed, and the choice is its end
abbrev pub IsTrailIn : System → Machine → (ℕ → Bool) → List Lowering → Choice → Type 0
IsTrailIn sys state lost trail end = IsTrailBy sys.flow (covers_in sys state) (IsCandidate sys state lost kept) trail end

-- in each state to which steps of a well-formed system lead from the first one there is a trail, whichever nodes count as failed
abbrev pub TrailExists : Type 0
TrailExists = (sys : System) → IsWellFormedSystem sys → (steps : List Step) (outcomes : List Outcome) (last : Machine)
    → Run sys (first_state sys) steps outcomes last → (lost : ℕ → Bool)
    → (trail : List Lowering) × (end : Choice) × IsTrailIn sys last lost trail end

-- in no state is there another one
abbrev pub TrailOfStateIsOne : Type 0
TrailOfStateIsOne = (sys : System) (state : Machine) (lost : ℕ → Bool) (first second : List Lowering) (one two : Choice)
    → IsTrailIn sys state lost first one → IsTrailIn sys state lost second two → (first ≡ second) × (one ≡ two)

-- it ends at the largest choice
abbrev pub TrailOfStateEndsAtLargest : Type 0
TrailOfStateEndsAtLargest = (sys : System) (state : Machine) (lost : ℕ → Bool) (trail : List Lowering) (end : Choice) → IsWellFormed sys.flow
    → IsTrailIn sys state lost trail end → IsLargest sys state (IsCandidate sys state lost kept) end
