-- What an engine keeps where nothing has happened.
use Rattle.std.specs.Prelude.{◌≡◌, ℕ, false, List, [], length, map, replicate, Bool}
use Rattle.fw_bag.specs.declared.rec.Rec.{Rec}
use Rattle.fw_frontier.specs.Front.{Front}
use Rattle.fw_frontier.specs.Frontier.{Frontier}
use Rattle.fw_flow.specs.Dataflow.{Dataflow, System, system_of, bounds_of, node_ids}
use Rattle.fw_model.specs.Machine.{no_stamps}
use Rattle.fw_progress.specs.History.{StandsForHistory}
use Rattle.fw_progress.specs.Progress.{Standing, IsOfFlow}
use Rattle.fw_progress.specs.declared.traces.Traces.{Traces}
use Rattle.fw_progress.specs.Trace.{HaveLists, IsTraceIf}
use Rattle.fw_rollback.specs.New.{AreNew}
use Rattle.fw_rollback.specs.Restored.{AreOfFlow}
use Rattle.fw_stands.specs.Acknowledging.{IsGreatestCount}
use Rattle.fw_running.specs.declared.running.Running.{Running}
use Rattle.fw_running.specs.Places.{HasAllPlaces}

-- for each node the frontier without stamps
abbrev pub no_stamps_each : Dataflow → List Front
no_stamps_each flow = map (λ p. no_stamps (bounds_of flow p)) (node_ids flow)

-- Progress to which nothing was told yet, and nothing is settled.
pub record IsFirstProgress (flow : Dataflow) (batches : List (ℕ × List (List Rec))) (now : Standing) : Type 0 where
  pub of_flow : IsOfFlow flow now
  pub settled : now.settled ≡ no_stamps_each flow
  pub stands : StandsForHistory (system_of flow batches) [] now
  pub live : now.refused ≡ false

-- Traces of no events.
pub record AreFirstTraces (flow : Dataflow) (traces : Traces) : Type 0 where
  pub lists : HaveLists flow traces
  pub none : (whole : Bool) (sys : System) (p : ℕ) (base : Frontier) → IsTraceIf whole sys [] p base traces
  pub live : traces.refused ≡ false

-- Nothing has happened in what an engine keeps of the flow with these batches.
pub record IsFirst (flow : Dataflow) (batches : List (ℕ × List (List Rec))) (running : Running) : Type 0 where
  pub runs : running.flow ≡ flow
  pub epochs : IsGreatestCount (system_of flow batches) running.epochs
  pub parts : AreNew flow batches (no_stamps_each flow) running.parts
  pub one_each : AreOfFlow flow running.parts
  pub progress : IsFirstProgress flow batches running.progress
  pub traces : AreFirstTraces flow running.traces
  pub failed : running.failed.items ≡ replicate (length flow.nodes) false
  pub lost : running.lost.items ≡ replicate (length flow.nodes) []
  pub ready : HasAllPlaces flow running.ready
