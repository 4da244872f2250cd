-- Laws of runs: what holds of each state to which steps lead from the first one, and of what they show.
use Rattle.std.specs.Prelude.{◌≡◌, ℕ, List, ◌++◌}
use Rattle.fw_flow.specs.declared.step.Step.{Step}
use Rattle.fw_flow.specs.Dataflow.{System}
use Rattle.fw_model.specs.History.{IsLegal}
use Rattle.fw_model.specs.Machine.{Machine, events, first_state, ack_count_of}
use Rattle.fw_model.specs.Steps.{Outcome, Run, HaveNoRecovery}
use Rattle.fw_model.specs.Acknowledgements.{stamps_acknowledged, first_stamps}

-- a run that goes on where another ended is one run with it, from whatever state
abbrev pub RunsGoOn : Type 0
RunsGoOn = (sys : System) (state between last : Machine) (steps more : List Step) (outcomes also : List Outcome)
    → Run sys state steps outcomes between → Run sys between more also last → Run sys state (steps ++ more) (outcomes ++ also) last

-- the history of each state to which steps without a recovery lead from the first one is legal
abbrev pub RunsStayLegal : Type 0
RunsStayLegal = (sys : System) (steps : List Step) (outcomes : List Outcome) (last : Machine) → HaveNoRecovery steps
    → Run sys (first_state sys) steps outcomes last → IsLegal sys (events last.history)

-- A run acknowledges at each output the stamps below its bound, in order and each once: the bound goes up by one with each
-- acknowledgement and never falls.
abbrev pub AcknowledgementsAreInOrder : Type 0
AcknowledgementsAreInOrder = (sys : System) (steps : List Step) (outcomes : List Outcome) (last : Machine)
    → Run sys (first_state sys) steps outcomes last → (o : ℕ) → stamps_acknowledged o outcomes ≡ first_stamps (ack_count_of last o)
