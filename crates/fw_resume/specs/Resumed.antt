-- What is kept by an engine that starts again, by the parts of a root; and what the start promises.
use Rattle.std.specs.Prelude.{◌≡◌, ℕ, true, false, List, length, replicate, Option, Result, Ok, Err}
use Rattle.fw_flow.specs.Dataflow.{Dataflow, System, system_of}
use Rattle.fw_flow.specs.WellFormed.{IsWellFormedSystem}
use Rattle.fw_model.specs.Machine.{Machine, events}
use Rattle.fw_model.specs.Reached.{IsReached}
use Rattle.fw_regain.specs.Down.{down}
use Rattle.fw_regain.specs.RootOf.{IsRootOf}
use Rattle.fw_keep.specs.declared.entry.Entry.{Entry}
use Rattle.fw_keep.specs.Catalogue.{KeepState}
use Rattle.fw_keep.specs.Stored.{Records}
use Rattle.fw_progress.specs.History.{StandsForHistory}
use Rattle.fw_progress.specs.Progress.{IsOfFlow}
use Rattle.fw_progress.specs.Trace.{HaveLists}
use Rattle.fw_root.specs.OfFlow.{Given}
use Rattle.fw_root.specs.declared.root.Root.{Root}
use Rattle.fw_stands.specs.Acknowledging.{IsGreatestCount}
use Rattle.fw_stands.specs.Written.{AreEntriesOf, uncollected}
use Rattle.fw_running.specs.declared.fault.EngineFault.{EngineFault}
use Rattle.fw_running.specs.declared.fault.EngineFault.TheVariants as fault
use Rattle.fw_running.specs.declared.running.Running.{Running}
use Rattle.fw_running.specs.Held.{KnowsTracesHeld, StandsHeld}
use Rattle.fw_running.specs.Places.{HasAllPlaces}
use Rattle.fw_resume.specs.Catalogue.{IsNamedDamage}
use Rattle.fw_resume.specs.Lost.{AreLostTold, KnowAllLosses}
use Rattle.fw_resume.specs.Parts.{ArePartsOf, settled_told}

-- What is kept is of the flow, and is what a root and a catalogue tell; every node is failed, and each place is looked at.
pub record IsResumedBy (flow : Dataflow) (batches : Given) (root : Root) (keep : KeepState) (running : Running) : Type 0 where
  pub runs : running.flow ≡ flow
  pub epochs : IsGreatestCount (system_of flow batches) running.epochs
  pub parts : ArePartsOf flow batches root keep running.parts
  pub progress : IsOfFlow flow running.progress
  pub settled : running.progress.settled ≡ settled_told root
  pub live : running.progress.refused ≡ false
  pub traces : HaveLists flow running.traces
  pub traced : running.traces.refused ≡ false
  pub failed : running.failed.items ≡ replicate (length flow.nodes) true
  pub lost : AreLostTold flow root.fronts (length flow.nodes) running.lost.items
  pub ready : HasAllPlaces flow running.ready

-- The root is one of a state to which steps of the well-formed system lead.
pub record IsRootStateOf (flow : Dataflow) (batches : Given) (root : Root) (state : Machine) : Type 0 where
  pub well_formed : IsWellFormedSystem (system_of flow batches)
  pub reached : IsReached (system_of flow batches) state
  pub of_state : IsRootOf (system_of flow batches) state root

-- the entries stand for the writes that are left where every node of the state is failed
abbrev pub AreEntriesLeft : System → Machine → List Entry → Type 0
AreEntriesLeft sys state entries = AreEntriesOf sys (down sys state) entries (uncollected (down sys state))

-- Progress stands for the history of the state; and the traces, and the stamps that were lost, tell as much as a recovery asks, where every
-- node of it is failed.
pub record KnowsPast (sys : System) (state : Machine) (running : Running) : Type 0 where
  pub progress : StandsForHistory sys (events state.history) running.progress
  pub traces : KnowsTracesHeld sys (down sys state) running.traces
  pub lost : KnowAllLosses sys state running.lost.items

-- an engine that starts again holds what is left of the state, where the start is done, and no record is damaged
abbrev pub Resumes : System → Machine → Option Records → Result Running EngineFault → Type 0
Resumes sys state records (Ok running) = StandsHeld sys running records state
Resumes sys state records (Err (fault.Damaged id)) = ⊥
Resumes sys state records (Err fault.StoreFault) = Unit {0}
Resumes sys state records (Err fault.NoMemory) = Unit {0}

-- so it is where a record is said to be damaged
abbrev pub TellsDamaged : Dataflow → Root → Option (ℕ × List ℕ) → Result Running EngineFault → Type 0
TellsDamaged flow root given (Ok running) = Unit {0}
TellsDamaged flow root given (Err (fault.Damaged id)) = IsNamedDamage flow root given id
TellsDamaged flow root given (Err fault.StoreFault) = Unit {0}
TellsDamaged flow root given (Err fault.NoMemory) = Unit {0}
