-- What a recovery makes of what an engine keeps beside its parts.
use Rattle.std.specs.Prelude.{◌≡◌, ℕ, false, [], length, replicate, slice_index_or}
use Rattle.fw_flow.specs.declared.choice.Choice.{Choice}
use Rattle.fw_progress.specs.Progress.{IsOfFlow}
use Rattle.fw_progress.specs.Trace.{HaveLists}
use Rattle.fw_running.specs.declared.running.Running.{Running}
use Rattle.fw_recover.specs.CutProgress.{IsProgressCut}
use Rattle.fw_recover.specs.CutTraces.{AreTracesCut}
use Rattle.fw_running.specs.Places.{HasAllPlaces}

-- What is kept of traces and progress fits the flow, and neither was refused memory.
pub record KeepsFit (running : Running) : Type 0 where
  pub live : running.progress.refused ≡ false
  pub progress : IsOfFlow running.flow running.progress
  pub traced : running.traces.refused ≡ false
  pub traces : HaveLists running.flow running.traces

-- Traces and progress are cut to a choice by the entries and the queues that are left; no node is failed or has lost an event, and
-- anything may be done.
pub record IsFollowed (choice : Choice) (old new : Running) : Type 0 where
  pub epochs : new.epochs ≡ old.epochs
  pub traces : AreTracesCut old.flow old.parts.keep.entries choice (length old.flow.nodes) old.traces new.traces
  pub progress : IsProgressCut old.flow choice old.parts.queues old.progress new.progress
  pub failed : new.failed.items ≡ replicate (length old.flow.nodes) false
  pub lost : (p : ℕ) → slice_index_or new.lost.items p [] ≡ []
  pub lost_each : length new.lost.items ≡ length old.flow.nodes
  pub ready : HasAllPlaces old.flow new.ready
  pub places : KeepsFit new
