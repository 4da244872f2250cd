-- Laws of choosing: in each state of a run there is something to choose, and what was collected changes no choice.
use Rattle.std.specs.Prelude.{◌≡◌, ◌↔◌, ℕ, ◌<◌, Bool, true, List, length}
use Rattle.fw_time.specs.Stamp.{Stamp}
use Rattle.fw_bag.specs.declared.rec.Rec.{Rec}
use Rattle.fw_frontier.specs.Frontier.{Within}
use Rattle.fw_frontier.specs.Front.{Front}
use Rattle.fw_flow.specs.declared.choice.Cut.TheVariants.{At}
use Rattle.fw_flow.specs.declared.step.Step.{Step}
use Rattle.fw_flow.specs.declared.step.Step.TheVariants.{Recover}
use Rattle.fw_flow.specs.Dataflow.{System, node_frontier}
use Rattle.fw_flow.specs.WellFormed.{IsWellFormedSystem}
use Rattle.fw_model.specs.Machine.{Machine, first_state, front_of, is_failed}
use Rattle.fw_flow.specs.declared.choice.Choice.{Choice}
use Rattle.fw_model.specs.Choice.{View, kept, ever, cut_of, IsCandidate, IsConsistent, IsCutWithin, IsLargest}
use Rattle.fw_model.specs.Steps.{cuts, Outcome, did, StepsTo, Run, IsTheNext}
use Rattle.fw_model.specs.Choosing.{low_choice, AreCheckpointsChains, CanChoose}
use Rattle.fw_model.specs.Acknowledgements.{Shows}

-- in each state to which steps of a well-formed system lead from the first one, the low watermark is a consistent choice
-- with some notification frontiers, whichever nodes count as failed, with what was collected and without it
abbrev pub LowWatermarkIsConsistent : Type 0
LowWatermarkIsConsistent = (sys : System) → IsWellFormedSystem sys → (steps : List Step) (outcomes : List Outcome) (last : Machine)
    → Run sys (first_state sys) steps outcomes last
    → (notices : List Front) × ((lost : ℕ → Bool) (view : View) → IsConsistent sys last (IsCandidate sys last lost view) (low_choice last notices))

-- in each state to which steps of a well-formed system lead from the first one, the checkpoints of each node are a chain
abbrev pub CheckpointsAreChains : Type 0
CheckpointsAreChains = (sys : System) → IsWellFormedSystem sys → (steps : List Step) (outcomes : List Outcome) (last : Machine)
    → Run sys (first_state sys) steps outcomes last → (lost : ℕ → Bool) (view : View) → AreCheckpointsChains sys last lost view

-- in each state to which steps of a well-formed system lead from the first one, a recovery has something to choose,
-- whichever nodes count as failed
abbrev pub RecoveryHasAChoice : Type 0
RecoveryHasAChoice = (sys : System) → IsWellFormedSystem sys → (steps : List Step) (outcomes : List Outcome) (last : Machine)
    → Run sys (first_state sys) steps outcomes last → (lost : ℕ → Bool) → CanChoose sys last lost

-- in each state to which steps of a well-formed system lead from the first one, a recovery is enabled if a declared node is
-- failed, and shows a choice
abbrev pub FailedNodesAreRecovered : Type 0
FailedNodesAreRecovered = (sys : System) → IsWellFormedSystem sys → (steps : List Step) (outcomes : List Outcome) (last : Machine)
    → Run sys (first_state sys) steps outcomes last
    → (p : ℕ) → p < length sys.flow.nodes → is_failed last p ≡ true
    → (next : Machine) × (choice : Choice) × StepsTo sys last Recover next (did (cuts choice))

-- from each state to which steps of a well-formed system lead from the first one, each step leads to exactly one next
-- state, with one outcome
abbrev pub ReachedStatesHaveOneNextState : Type 0
ReachedStatesHaveOneNextState = (sys : System) → IsWellFormedSystem sys → (steps : List Step) (outcomes : List Outcome) (last : Machine)
    → Run sys (first_state sys) steps outcomes last → (step : Step)
    → (next : Machine) × (outcome : Outcome) × IsTheNext sys last step next outcome

-- in each state to which steps of a well-formed system lead from the first one, each largest choice contains the low
-- watermark
abbrev pub LargestChoiceHoldsLowWatermark : Type 0
LargestChoiceHoldsLowWatermark = (sys : System) → IsWellFormedSystem sys → (steps : List Step) (outcomes : List Outcome) (last : Machine)
    → Run sys (first_state sys) steps outcomes last → (lost : ℕ → Bool) (view : View) (choice : Choice)
    → IsLargest sys last (IsCandidate sys last lost view) choice
    → (p : ℕ) → p < length sys.flow.nodes → IsCutWithin sys.flow p (At (front_of last.low p)) (cut_of choice p)

-- a step from a state to which steps of a well-formed system lead from the first one lowers the low watermark at no node
abbrev pub LowWatermarkNeverFalls : Type 0
LowWatermarkNeverFalls = (sys : System) → IsWellFormedSystem sys → (steps : List Step) (outcomes : List Outcome) (last : Machine)
    → Run sys (first_state sys) steps outcomes last → (step : Step) (next : Machine) (outcome : Outcome) → StepsTo sys last step next outcome
    → (p : ℕ) → p < length sys.flow.nodes
    → Within (node_frontier sys.flow p (front_of last.low p)) (node_frontier sys.flow p (front_of next.low p))

-- in each state to which steps of a well-formed system lead from the first one, the largest choice among what is kept is
-- the largest also with what was collected, whichever nodes count as failed
abbrev pub LargestOfKeptIsLargestOfEver : Type 0
LargestOfKeptIsLargestOfEver = (sys : System) → IsWellFormedSystem sys → (steps : List Step) (outcomes : List Outcome) (last : Machine)
    → Run sys (first_state sys) steps outcomes last → (lost : ℕ → Bool) (choice : Choice)
    → IsLargest sys last (IsCandidate sys last lost kept) choice ↔ IsLargest sys last (IsCandidate sys last lost ever) choice

-- two runs of one well-formed system that acknowledge an output at a stamp show the same recs there
abbrev pub TwoRunsShowOneBag : Type 0
TwoRunsShowOneBag = (sys : System) → IsWellFormedSystem sys → (steps others : List Step) (outcomes also : List Outcome) (last final : Machine)
    → Run sys (first_state sys) steps outcomes last → Run sys (first_state sys) others also final
    → (o : ℕ) (t : Stamp) (one two : List Rec) → Shows o t one outcomes → Shows o t two also → one ≡ two
