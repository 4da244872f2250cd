-- Laws of recoveries: what holds of each state to which steps lead from the first one, recoveries among them.
use Rattle.std.specs.Prelude.{◌≡◌, ℕ, ◌<◌, Bool, false, List, length}
use Rattle.std.specs.List.{AllByRecursion}
use Rattle.fw_frontier.specs.Frontier.{Within}
use Rattle.fw_frontier.specs.Front.{Front}
use Rattle.fw_flow.specs.declared.choice.Cut.TheVariants.{At}
use Rattle.fw_flow.specs.declared.step.Step.{Step}
use Rattle.fw_flow.specs.Dataflow.{System, kind_of, is_input_kind, HasEpochs, node_frontier}
use Rattle.fw_flow.specs.WellFormed.{IsWellFormed, IsWellFormedSystem}
use Rattle.fw_model.specs.Denotation.{Family, IsDenotation}
use Rattle.fw_model.specs.History.{IsLegal}
use Rattle.fw_model.specs.Machine.{Machine, events, first_state, front_of}
use Rattle.fw_model.specs.Choice.{View, IsCandidate}
use Rattle.fw_model.specs.Steps.{Outcome, StepsTo, Run}
use Rattle.fw_model.specs.Settled.{IsDenotedInside, IsFull}
use Rattle.fw_model.specs.Acknowledgements.{IsDenoted}

-- each step from a state of a well-formed flow with epochs with a legal history leads to one, a recovery too
abbrev pub StepsKeepHistoriesLegal : Type 0
StepsKeepHistoriesLegal = (sys : System) (state : Machine) (step : Step) (next : Machine) (outcome : Outcome)
    → IsWellFormed sys.flow → HasEpochs sys → IsLegal sys (events state.history) → StepsTo sys state step next outcome
    → IsLegal sys (events next.history)

-- in a well-formed flow with epochs the history of each state to which steps lead from the first one is legal, with
-- recoveries among them
abbrev pub RunsStayLegalThroughRecoveries : Type 0
RunsStayLegalThroughRecoveries = (sys : System) (steps : List Step) (outcomes : List Outcome) (last : Machine)
    → IsWellFormed sys.flow → HasEpochs sys → Run sys (first_state sys) steps outcomes last → IsLegal sys (events last.history)

-- in each state to which steps lead from the first one, each frontier to which a node that is no input can be restored lies
-- within what is settled at it
abbrev pub CandidatesLieWithinSettled : Type 0
CandidatesLieWithinSettled = (sys : System) (steps : List Step) (outcomes : List Outcome) (last : Machine)
    → Run sys (first_state sys) steps outcomes last → (lost : ℕ → Bool) (view : View) (p : ℕ) (f : Front) → p < length sys.flow.nodes
    → is_input_kind (kind_of sys.flow p) ≡ false → IsCandidate sys last lost view p (At f)
    → Within (node_frontier sys.flow p f) (node_frontier sys.flow p (front_of last.settled p))

-- in each state to which steps of a well-formed system lead from the first one, what is settled is denoted
abbrev pub SettledStaysDenoted : Type 0
SettledStaysDenoted = (sys : System) (family : Family) → IsWellFormedSystem sys → IsDenotation sys family
    → (steps : List Step) (outcomes : List Outcome) (last : Machine) → Run sys (first_state sys) steps outcomes last
    → IsDenotedInside sys family last

-- in a state of a well-formed system with a legal history, where what is settled is denoted, nothing is pending and nothing
-- owed inside what is settled
abbrev pub DenotedIsFull : Type 0
DenotedIsFull = (sys : System) (family : Family) (state : Machine) → IsWellFormedSystem sys
    → IsDenotation sys family → IsLegal sys (events state.history) → IsDenotedInside sys family state → IsFull sys state

-- each acknowledgement of a run of a well-formed system shows the denotation, with recoveries among its steps
abbrev pub AcknowledgementsShowDenotationThroughRecoveries : Type 0
AcknowledgementsShowDenotationThroughRecoveries = (sys : System) (family : Family) → IsWellFormedSystem sys
    → IsDenotation sys family → (steps : List Step) (outcomes : List Outcome) (last : Machine)
    → Run sys (first_state sys) steps outcomes last → AllByRecursion (IsDenoted sys family) outcomes
