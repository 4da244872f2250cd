-- Laws of steps that are taken by themselves: there is one such run, and it is a run of the machine.
use Rattle.std.specs.Prelude.{◌≡◌, ℕ, ◌+◌, List, ◌++◌, map, length}
use Rattle.fw_flow.specs.declared.step.Step.{Step}
use Rattle.fw_flow.specs.Dataflow.{System}
use Rattle.fw_flow.specs.WellFormed.{IsWellFormedSystem}
use Rattle.fw_model.specs.Auto.{IsAutoRun}
use Rattle.fw_model.specs.Machine.{Machine, first_state}
use Rattle.fw_model.specs.Steps.{Effect, Outcome, did, Run}

-- from each state to which steps of a well-formed system lead from the first one, `auto` takes, at most so many, exactly
-- one list of steps, to exactly one state
abbrev pub AutoRunsAreOne : Type 0
AutoRunsAreOne = (sys : System) → IsWellFormedSystem sys → (before : List Step) (outcomes : List Outcome) (state : Machine)
    → Run sys (first_state sys) before outcomes state → (most : ℕ)
    → (steps : List Step) × (last : Machine) × IsAutoRun sys state most steps last
    × ((others : List Step) (other : Machine) → IsAutoRun sys state most others other → (others ≡ steps) × (other ≡ last))

-- the steps that `auto` takes are a run of the machine, in which none is idle
abbrev pub AutoRunsAreRuns : Type 0
AutoRunsAreRuns = (sys : System) (state last : Machine) (most : ℕ) (steps : List Step) → IsAutoRun sys state most steps last
    → (effects : List Effect) × Run sys state steps (map did effects) last

-- where `auto` took as many steps as it may, and then at most so many more, these are steps that it takes if it may take
-- all of them
abbrev pub AutoRunsGoOn : Type 0
AutoRunsGoOn = (sys : System) (state between last : Machine) (steps others : List Step) (most : ℕ)
    → IsAutoRun sys state (length steps) steps between → IsAutoRun sys between most others last
    → IsAutoRun sys state (length steps + most) (steps ++ others) last
