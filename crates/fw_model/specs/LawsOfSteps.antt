-- Laws of the machine's steps: from each state each step leads to exactly one next state, with one outcome.
use Rattle.std.specs.Prelude.{◌≡◌}
use Rattle.fw_flow.specs.declared.step.Step.{Step}
use Rattle.fw_flow.specs.Dataflow.{System}
use Rattle.fw_flow.specs.WellFormed.{IsWellFormed}
use Rattle.fw_model.specs.Machine.{Machine}
use Rattle.fw_model.specs.Steps.{Outcome, StepsTo, IsTheNext}
use Rattle.fw_model.specs.Choosing.{HasItsChoice}

-- from a state a step leads to at most one next state, with one outcome
abbrev pub OneNextState : Type 0
OneNextState = (sys : System) (state : Machine) (step : Step) (one other : Machine) (first second : Outcome)
    → StepsTo sys state step one first → StepsTo sys state step other second → (one ≡ other) × (first ≡ second)

-- from a state of a well-formed flow a step leads to some next state, with some outcome, if it has its choice
abbrev pub SomeNextState : Type 0
SomeNextState = (sys : System) (state : Machine) → IsWellFormed sys.flow → (step : Step) → HasItsChoice sys state step
    → (next : Machine) × (outcome : Outcome) × StepsTo sys state step next outcome

-- from a state of a well-formed flow a step leads to exactly one next state, with exactly one outcome, if it has its choice
abbrev pub ExactlyOneNextState : Type 0
ExactlyOneNextState = (sys : System) (state : Machine) → IsWellFormed sys.flow → (step : Step) → HasItsChoice sys state step
    → (next : Machine) × (outcome : Outcome) × IsTheNext sys state step next outcome
