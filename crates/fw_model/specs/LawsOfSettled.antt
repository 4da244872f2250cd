-- Laws of what is settled: nothing more comes there.
use Rattle.std.specs.Prelude.{◌≡◌, false, List}
use Rattle.fw_flow.specs.declared.event.Event.{Event}
use Rattle.fw_flow.specs.declared.step.Step.{Step}
use Rattle.fw_flow.specs.Dataflow.{System, kind_of, node_frontier, is_input_kind}
use Rattle.fw_flow.specs.NodeFunction.{event_node, event_stamp}
use Rattle.fw_flow.specs.WellFormed.{IsWellFormedSystem}
use Rattle.fw_model.specs.History.{IsEnabled}
use Rattle.fw_model.specs.Machine.{Machine, events, first_state, front_of}
use Rattle.fw_model.specs.Steps.{Outcome, Run}

-- An event lies outside the low watermark of its node, and outside what is settled there, but at an input.
pub record LiesOutside (sys : System) (state : Machine) (v : Event) : Type 0 where
  pub low : node_frontier sys.flow (event_node sys.flow v) (front_of state.low (event_node sys.flow v)) (event_stamp v) ≡ false
  pub settled : is_input_kind (kind_of sys.flow (event_node sys.flow v)) ≡ false
      → node_frontier sys.flow (event_node sys.flow v) (front_of state.settled (event_node sys.flow v)) (event_stamp v) ≡ false

-- in each state to which steps of a well-formed system lead from the first one, each event that may come next lies outside
abbrev pub NothingComesInsideSettled : Type 0
NothingComesInsideSettled = (sys : System) → IsWellFormedSystem sys → (steps : List Step) (outcomes : List Outcome) (last : Machine)
    → Run sys (first_state sys) steps outcomes last → (v : Event) → IsEnabled sys (events last.history) v → LiesOutside sys last v
