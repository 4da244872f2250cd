-- Laws of existence: complete frontiers, lists of outside stamps, and largest choices.
use Rattle.std.specs.Prelude.{◌≡◌, ℕ, Bool, List}
use Rattle.fw_time.specs.declared.stamp.Bounds.{Bounds}
use Rattle.fw_frontier.specs.Frontier.{Frontier, IsFrontier}
use Rattle.fw_frontier.specs.Front.{Front, IsFrontOf}
use Rattle.fw_flow.specs.declared.event.Event.{Event}
use Rattle.fw_flow.specs.Dataflow.{System}
use Rattle.fw_flow.specs.WellFormed.{IsWellFormed}
use Rattle.fw_model.specs.History.{IsComplete}
use Rattle.fw_model.specs.Machine.{Machine, events}
use Rattle.fw_flow.specs.declared.choice.Choice.{Choice}
use Rattle.fw_model.specs.Choice.{View, IsCandidate, IsConsistent, IsLargest}
use Rattle.fw_model.specs.Steps.{GrowsTo}
use Rattle.fw_model.specs.Settled.{HasMoreToSettle}
use Rattle.fw_model.specs.Choosing.{AreCheckpointsChains}

-- each frontier of a domain has a list of outside stamps that names it
abbrev pub FrontierHasFront : Type 0
FrontierHasFront = (bounds : Bounds) (f : Frontier) → IsFrontier bounds f → (os : Front) × IsFrontOf bounds os f

-- after each history of a well-formed flow, legal or not, there are complete frontiers
abbrev pub CompleteExists : Type 0
CompleteExists = (sys : System) (h : List Event) → IsWellFormed sys.flow → (done : ℕ → Frontier) × IsComplete sys h done

-- after each history there is at most one family of complete frontiers
abbrev pub CompleteIsTheOnlyOne : Type 0
CompleteIsTheOnlyOne = (sys : System) (h : List Event) (one other : ℕ → Frontier) → IsComplete sys h one → IsComplete sys h other
    → one ≡ other

-- settled can grow to what is complete where more is complete at some node that is not failed
abbrev pub SettledCanGrow : Type 0
SettledCanGrow = (sys : System) (state : Machine) (done : ℕ → Frontier) → IsComplete sys (events state.history) done
    → HasMoreToSettle sys state done → (settled : List Front) × GrowsTo sys state done settled

-- where some choice of the restore candidates is consistent and checkpoints are chains, there is a largest choice
abbrev pub LargestChoiceExists : Type 0
LargestChoiceExists = (sys : System) (state : Machine) (lost : ℕ → Bool) (view : View) → AreCheckpointsChains sys state lost view
    → (choice : Choice) → IsConsistent sys state (IsCandidate sys state lost view) choice
    → (largest : Choice) × IsLargest sys state (IsCandidate sys state lost view) largest
