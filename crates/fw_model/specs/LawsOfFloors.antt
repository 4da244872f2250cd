-- Laws of floors: the low watermark is one, steps leave them floors, and no largest choice falls below one.
use Rattle.std.specs.Prelude.{◌≡◌, ◌≢◌, ℕ, ◌<◌, Bool, true, List, map, length}
use Rattle.fw_frontier.specs.Frontier.{Within}
use Rattle.fw_frontier.specs.Front.{Front}
use Rattle.fw_flow.specs.declared.choice.Choice.{Choice}
use Rattle.fw_flow.specs.declared.choice.Cut.TheVariants.{At}
use Rattle.fw_flow.specs.declared.step.Step.{Step}
use Rattle.fw_flow.specs.declared.step.Step.TheVariants.{Collect, Recover}
use Rattle.fw_flow.specs.Dataflow.{System, node_frontier}
use Rattle.fw_flow.specs.WellFormed.{IsWellFormedSystem}
use Rattle.fw_model.specs.Choice.{kept, IsCandidate, IsLargest, IsCutWithin, cut_of}
use Rattle.fw_model.specs.Floors.{IsFloor}
use Rattle.fw_model.specs.Machine.{Machine, front_of, is_failed}
use Rattle.fw_model.specs.Reached.{IsReached}
use Rattle.fw_model.specs.Steps.{Effect, cuts, LeadsTo, front_of_cut}

-- in each state to which steps of a well-formed system lead from the first one, the low watermark is a floor
abbrev pub LowWatermarkIsAFloor : Type 0
LowWatermarkIsAFloor = (sys : System) (state : Machine) → IsWellFormedSystem sys → IsReached sys state → IsFloor sys state state.low

-- a step that is no collection leaves each floor a floor
abbrev pub FloorsStay : Type 0
FloorsStay = (sys : System) (state : Machine) (floor : List Front) (step : Step) (next : Machine) (effect : Effect)
    → IsWellFormedSystem sys → IsReached sys state → IsFloor sys state floor → step ≢ Collect → LeadsTo sys state step next effect
    → IsFloor sys next floor

-- each largest choice holds each floor, whichever nodes count as failed
abbrev pub LargestChoiceHoldsFloors : Type 0
LargestChoiceHoldsFloors = (sys : System) (state : Machine) (floor : List Front) (lost : ℕ → Bool) (choice : Choice)
    → IsFloor sys state floor → IsLargest sys state (IsCandidate sys state lost kept) choice
    → (p : ℕ) → p < length sys.flow.nodes → IsCutWithin sys.flow p (At (front_of floor p)) (cut_of choice p)

-- after a collection the low watermark holds each floor of before
abbrev pub WatermarkHoldsFloors : Type 0
WatermarkHoldsFloors = (sys : System) (state : Machine) (floor : List Front) (next : Machine) (effect : Effect)
    → IsFloor sys state floor → LeadsTo sys state Collect next effect
    → (p : ℕ) → p < length sys.flow.nodes → Within (node_frontier sys.flow p (front_of floor p)) (node_frontier sys.flow p (front_of next.low p))

-- a recovery of a state in which each node is failed leads to one in which the fronts of its cuts are a floor
abbrev pub CutOfAllIsAFloor : Type 0
CutOfAllIsAFloor = (sys : System) (state : Machine) (next : Machine) (choice : Choice)
    → IsWellFormedSystem sys → IsReached sys state → ((p : ℕ) → p < length sys.flow.nodes → is_failed state p ≡ true)
    → LeadsTo sys state Recover next (cuts choice)
    → IsFloor sys next (map front_of_cut choice.cuts)
