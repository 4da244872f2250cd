-- An engine goes on standing for a state where nothing that the state tells is changed.
use Rattle.std.proofs.Common.{◌≡◌, ℕ, false, slice_index_or, sym, ap, subst, Option, Result}
use Rattle.fw_outside.specs.Outside.{StayIfTold}
use Rattle.fw_outside.proofs.ToldLaws.{told-kept}
use Rattle.fw_flow.specs.declared.step.Step.{Step}
use Rattle.fw_flow.specs.Dataflow.{System}
use Rattle.fw_model.specs.Machine.{Machine, events, is_failed}
use Rattle.fw_model.specs.Steps.{StepsTo, idle}
use Rattle.fw_keep.specs.Catalogue.{KeepState}
use Rattle.fw_keep.specs.Stored.{Records}
use Rattle.fw_keep.proofs.StoredLaws.{freed-mapped}
use Rattle.fw_progress.specs.History.{StandsForHistory}
use Rattle.fw_progress.specs.Progress.{Standing}
use Rattle.fw_stands.specs.Entries.{AreBasesOf}
use Rattle.fw_stands.specs.Written.{AreEntriesOf, AreStored, uncollected}
use Rattle.fw_stands.proofs.EntrySteps.{kept_bytes_are_stored}
use Rattle.fw_running.specs.declared.fault.EngineFault.{EngineFault}
use Rattle.fw_running.specs.declared.running.Running.{Running}
use Rattle.fw_running.specs.declared.stepped.Stepped.{Stepped}
use Rattle.fw_running.specs.Held.{RecoversHeld, StandsHeld}
use Rattle.fw_running.specs.Kept.{is_down}
use Rattle.fw_running.specs.Logging.{with_keep, ChangesKeep, IsAskRefused}
use Rattle.fw_running.specs.ReadyState.{ReadyState}
use Rattle.fw_running.specs.Stands.{Stands, StandsApart}
use Rattle.fw_running.specs.Steps.{Follows, ShowsOutcome, TakesStep}

-- what is failed is down
pub down-failed : (sys : System) (running : Running) (records : Option Records) (state : Machine) → Stands sys running records state
    → (p : ℕ) → is_down running p ≡ is_failed state p
down-failed sys running records state s p = ap (λ bs. slice_index_or bs p false) s.apart.failed

-- an engine with another catalogue, other progress and other places stands for the same state, where catalogue and progress do
pub same-stands : (sys : System) (old : Running) (keep : KeepState) (progress : Standing) (ready : ReadyState) (before after : Option Records) (state : Machine)
    → Stands sys old before state → progress.settled ≡ state.settled → StandsForHistory sys (events state.history) progress
    → AreEntriesOf sys state keep.entries (uncollected state) → AreBasesOf keep.entries keep.entries (uncollected state)
    → AreStored sys state after keep.entries (uncollected state) → Stands sys (record old { parts = record old.parts { keep = keep }; progress = progress; ready = ready }) after state
same-stands sys old keep progress ready before after state s settled stands entries bases stored = record {
  apart = record {
    flow = s.apart.flow;
    well_formed = s.apart.well_formed;
    reached = s.apart.reached;
    settled = settled;
    failed = s.apart.failed;
    low = s.apart.low;
    epochs = s.apart.epochs;
    tables = s.apart.tables;
    queues = s.apart.queues;
    logs = s.apart.logs;
    outputs = s.apart.outputs;
    sources = s.apart.sources;
    progress = stands;
    entries = entries;
    bases = bases;
    stored = stored;
  };
  traces = s.traces;
  lost = s.lost;
}

-- so it does with another catalogue of the same entries, where these are stored
pub keep-stands : (sys : System) (old : Running) (keep : KeepState) (before after : Option Records) (state : Machine) → Stands sys old before state
    → keep.entries ≡ old.parts.keep.entries → AreStored sys state after old.parts.keep.entries (uncollected state) → Stands sys (with_keep keep old) after state
keep-stands sys old keep before after state s same stored =
    same-stands sys old keep old.progress old.ready before after state s s.apart.settled s.apart.progress
    (subst (λ es. AreEntriesOf sys state es (uncollected state)) (sym same) s.apart.entries)
    (subst (λ es. AreBasesOf es es (uncollected state)) (sym same) s.apart.bases)
    (subst (λ es. AreStored sys state after es (uncollected state)) (sym same) stored)

-- and so it does over what its store still tells
pub told-apart : (sys : System) (running : Running) (before after : Option Records) (state : Machine) → StayIfTold before after
    → StandsApart sys running before state → StandsApart sys running after state
told-apart sys running before after state stay a = record {
  flow = a.flow;
  well_formed = a.well_formed;
  reached = a.reached;
  settled = a.settled;
  failed = a.failed;
  low = a.low;
  epochs = a.epochs;
  tables = a.tables;
  queues = a.queues;
  logs = a.logs;
  outputs = a.outputs;
  sources = a.sources;
  progress = a.progress;
  entries = a.entries;
  bases = a.bases;
  stored = told-kept (λ records. AreStored sys state records running.parts.keep.entries (uncollected state)) before after stay (λ held is. absurd (cc)) a.stored;
}

pub told-stands : (sys : System) (running : Running) (before after : Option Records) (state : Machine) → StayIfTold before after → Stands sys running before state
    → Stands sys running after state
told-stands sys running before after state stay s = record {
  apart = told-apart sys running before after state stay s.apart;
  traces = s.traces;
  lost = s.lost;
}

-- and holds what is left of it
told-held : (sys : System) (running : Running) (before after : Option Records) (state : Machine) → StayIfTold before after → StandsHeld sys running before state
    → StandsHeld sys running after state
told-held sys running before after state stay s = record {
  apart = told-apart sys running before after state stay s.apart;
  down = s.down;
  traces = s.traces;
  lost = s.lost;
}

-- so a step that is answered over what the store tells afterwards is answered over what it told before
pub told-takes : (old new : Running) (before after : Option Records) (step : Step) (result : Result Stepped EngineFault) → StayIfTold before after
    → TakesStep old after step result new after → TakesStep old before step result new after
told-takes old new before after step result stay t sys state s = t sys state (told-stands sys old before after state stay s)

pub told-shows : (old : Running) (before after : Option Records) (step : Step) (result : Result Stepped EngineFault) → StayIfTold before after
    → ShowsOutcome old after step result → ShowsOutcome old before step result
told-shows old before after step result stay t sys state s = t sys state (told-stands sys old before after state stay s)

pub told-recovers : (old new : Running) (before after : Option Records) (result : Result Stepped EngineFault) → StayIfTold before after
    → RecoversHeld old after result new after → RecoversHeld old before result new after
told-recovers old new before after result stay t sys state s = t sys state (told-held sys old before after state stay s)

-- where the asking of a write is refused and nothing but the catalogue is changed, the engine stands for the same state
pub unasked-stands : (sys : System) (old new : Running) (before after : Option Records) (state : Machine) → Stands sys old before state → ChangesKeep old new
    → IsAskRefused old.parts.keep new.parts.keep before after → Stands sys new after state
unasked-stands sys old new before after state s c n =
    let freed = freed-mapped old.parts.keep.shared old.parts.keep.next before after n.records in
    subst (λ (r : Running). Stands sys r after state) (sym c) (keep-stands sys old new.parts.keep before after state s n.entries
    (kept_bytes_are_stored sys state old.parts.keep.entries (uncollected state) before after freed.0 freed.1 n.bytes s.apart.stored))

-- a step that is not enabled leaves all
pub idle-follows : (sys : System) (running : Running) (records : Option Records) (state : Machine) (step : Step) → Stands sys running records state
    → StepsTo sys state step state idle → Follows sys state step idle running records
idle-follows sys running records state step s i = record { next = state; steps = i; stands = s }
