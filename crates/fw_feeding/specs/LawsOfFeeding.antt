-- Laws of feeding: what a run did stays done whatever comes behind the batches of now, and an engine that is fed stands for it.
use Rattle.std.specs.Prelude.{◌≡◌, ℕ, Bool, true, false, List, [], ◌∷◌, length, map, Option}
use Rattle.std.specs.List.{AllByRecursion}
use Rattle.fw_bag.specs.declared.rec.Rec.{Rec}
use Rattle.fw_frontier.specs.Front.{inside}
use Rattle.fw_flow.specs.declared.step.Step.{Step}
use Rattle.fw_flow.specs.Dataflow.{System, Dataflow, batches_of}
use Rattle.fw_flow.specs.WellFormed.{IsWellFormedSystem}
use Rattle.fw_border.specs.Sources.{SourceState, fed_source}
use Rattle.fw_keep.specs.Stored.{Records}
use Rattle.fw_model.specs.Acknowledgements.{IsDenotedEffect}
use Rattle.fw_model.specs.Denotation.{Family, IsDenotation}
use Rattle.fw_model.specs.Machine.{Machine, first_state, front_of}
use Rattle.fw_model.specs.Steps.{Effect, did, Run}
use Rattle.fw_stands.specs.Parts.{IsSourceOf}
use Rattle.fw_running.specs.declared.running.Running.{Running}
use Rattle.fw_running.specs.Stands.{Stands}
use Rattle.fw_feeding.specs.Feeding.{with_batches, GoOnEach, HaveLast, TakesLastPlace}
use Rattle.fw_feeding.specs.FedEngines.{IsFedWith}
use Rattle.fw_feeding.specs.FedRuns.{Action, steps_among, FedMachine, FedRun}
use Rattle.fw_feeding.specs.OpenRuns.{OpenRun}

-- an open run is one over any later batches
abbrev pub OpenRunsGoOnOverMore : Type 0
OpenRunsGoOnOverMore = (opened : ℕ → Bool) (flow : Dataflow) (now later : List (List (List Rec))) → GoOnEach opened flow now later
    → (steps : List Step) (effects : List Effect) (last : Machine)
    → OpenRun opened (with_batches flow now) (first_state (with_batches flow now)) steps effects last
    → OpenRun opened (with_batches flow later) (first_state (with_batches flow later)) steps effects last

-- an open run is a run
abbrev pub OpenRunsAreRuns : Type 0
OpenRunsAreRuns = (opened : ℕ → Bool) (sys : System) (state : Machine) (steps : List Step) (effects : List Effect) (last : Machine)
    → OpenRun opened sys state steps effects last → Run sys state steps (map did effects) last

-- an open run is one where fewer sources are open
abbrev pub ClosingKeepsOpenRuns : Type 0
ClosingKeepsOpenRuns = (opened left : ℕ → Bool) → ((s : ℕ) → left s ≡ true → opened s ≡ true)
    → (sys : System) (state : Machine) (steps : List Step) (effects : List Effect) (last : Machine)
    → OpenRun opened sys state steps effects last → OpenRun left sys state steps effects last

-- what an open run acknowledges is denoted, whatever comes
abbrev pub OpenRunsShowWhatIsDenoted : Type 0
OpenRunsShowWhatIsDenoted = (opened : ℕ → Bool) (flow : Dataflow) (now later : List (List (List Rec))) → GoOnEach opened flow now later
    → IsWellFormedSystem (with_batches flow later) → (family : Family) → IsDenotation (with_batches flow later) family
    → (steps : List Step) (effects : List Effect) (last : Machine)
    → OpenRun opened (with_batches flow now) (first_state (with_batches flow now)) steps effects last
    → AllByRecursion (IsDenotedEffect (with_batches flow later) family) effects

-- whatever was fed, closed and taken, in whatever order, the steps with their effects are a run over the batches that came in the end,
-- and over all that go on behind them
abbrev pub FedRunsAreRuns : Type 0
FedRunsAreRuns = (flow : Dataflow) (opened : ℕ → Bool) (batches : List (List (List Rec))) → HaveLast flow opened batches
    → (actions : List Action) (effects : List Effect) (last : FedMachine)
    → FedRun flow (record { opened = opened; batches = batches; state = first_state (with_batches flow batches) }) actions effects last
    → (end : List (List (List Rec))) → GoOnEach last.opened flow last.batches end
    → Run (with_batches flow end) (first_state (with_batches flow end)) (steps_among actions) (map did effects) last.state

-- where the last batch of a source lies outside the low watermark, what is kept of the source, fed with a batch, is what is kept of it over
-- the later batches
abbrev pub FedSourcesStand : Type 0
FedSourcesStand = (flow : Dataflow) (now later : List (List (List Rec))) (state : Machine) (s : ℕ) (recs : List Rec) (behind : List (List Rec))
    → (feeds : TakesLastPlace recs behind (batches_of (with_batches flow now) s) (batches_of (with_batches flow later) s))
    → inside (front_of state.low s) (length feeds.came ∷ []) ≡ false → (source : SourceState)
    → IsSourceOf (with_batches flow now) state s source → IsSourceOf (with_batches flow later) state s (fed_source recs behind source)

-- an engine that stands for the last state of an open run stands for it over later batches, once it is fed with them
abbrev pub FedEnginesStand : Type 0
FedEnginesStand = (opened : ℕ → Bool) (flow : Dataflow) (now later : List (List (List Rec))) → GoOnEach opened flow now later
    → IsWellFormedSystem (with_batches flow later) → (steps : List Step) (effects : List Effect) (state : Machine)
    → OpenRun opened (with_batches flow now) (first_state (with_batches flow now)) steps effects state
    → (old new : Running) → IsFedWith flow later state old new → (records : Option Records)
    → Stands (with_batches flow now) old records state → Stands (with_batches flow later) new records state
