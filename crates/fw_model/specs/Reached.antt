-- To which states steps lead.
use Rattle.std.specs.Prelude.{List}
use Rattle.fw_flow.specs.declared.step.Step.{Step}
use Rattle.fw_flow.specs.Dataflow.{System}
use Rattle.fw_model.specs.Machine.{Machine, first_state}
use Rattle.fw_model.specs.Steps.{Outcome, Run}

-- steps lead to the state from the first one
abbrev pub IsReached : System → Machine → Type 0
IsReached sys state = (steps : List Step) × (outcomes : List Outcome) × Run sys (first_state sys) steps outcomes state
