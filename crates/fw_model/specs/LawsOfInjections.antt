-- Laws of injections: a source injects its epochs in order, and a cut until a number leaves so many.
use Rattle.std.specs.Prelude.{◌≡◌, ℕ, ◌≤◌, ◌==◌, if◌then◌else◌, List, [], ◌∷◌, length}
use Rattle.std.specs.List.{flat_map}
use Rattle.fw_flow.specs.declared.choice.Choice.{Choice}
use Rattle.fw_flow.specs.declared.choice.Cut.TheVariants.{At}
use Rattle.fw_flow.specs.declared.event.Event.{Event}
use Rattle.fw_flow.specs.declared.event.Event.TheVariants.{Inject, Deliver, Notify}
use Rattle.fw_flow.specs.declared.step.Step.{Step}
use Rattle.fw_flow.specs.Dataflow.{System}
use Rattle.fw_flow.specs.WellFormed.{IsWellFormedSystem}
use Rattle.fw_model.specs.History.{injected_count}
use Rattle.fw_model.specs.Machine.{Machine, events, first_state}
use Rattle.fw_model.specs.Choice.{until, cut_of, filtered_history}
use Rattle.fw_model.specs.Steps.{Outcome, Run}

-- the epoch that an event injects of source s, if it does
abbrev pub epoch_injected : ℕ → Event → List ℕ
epoch_injected s (Inject q x) = if q == s then x ∷ [] else []
epoch_injected s (Deliver e m) = []
epoch_injected s (Notify p t) = []

-- the epochs that the events injected of source s, the latest first
abbrev pub epochs_injected : ℕ → List Event → List ℕ
epochs_injected s h = flat_map (epoch_injected s) h

-- the epochs, the latest first, are those from 0 on
abbrev pub AreEpochsInOrder : List ℕ → Type 0
AreEpochsInOrder [] = Unit {0}
AreEpochsInOrder (x ∷ xs) = (x ≡ length xs) × AreEpochsInOrder xs

-- in each state to which steps of a well-formed system lead from the first one, each source injected the epochs 0, 1, 2 and so
-- on in this order, as many as it injected
abbrev pub InjectedEpochsAreInOrder : Type 0
InjectedEpochsAreInOrder = (sys : System) → IsWellFormedSystem sys → (steps : List Step) (outcomes : List Outcome) (last : Machine)
    → Run sys (first_state sys) steps outcomes last → (s : ℕ)
    → AreEpochsInOrder (epochs_injected s (events last.history)) × (length (epochs_injected s (events last.history)) ≡ injected_count s (events last.history))

-- in each state to which steps of a well-formed system lead from the first one, a choice that cuts a source until k, of which
-- it injected at least k, leaves k of its injections
abbrev pub UntilLeavesThatMany : Type 0
UntilLeavesThatMany = (sys : System) → IsWellFormedSystem sys → (steps : List Step) (outcomes : List Outcome) (last : Machine)
    → Run sys (first_state sys) steps outcomes last → (choice : Choice) (s k : ℕ) → cut_of choice s ≡ At (until k)
    → k ≤ injected_count s (events last.history) → injected_count s (events (filtered_history sys choice last.history)) ≡ k
