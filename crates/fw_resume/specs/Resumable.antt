-- From what an engine can start again.
use Rattle.std.specs.List.{AllByRecursion}
use Rattle.std.specs.Prelude.{Option}
use Rattle.fw_flow.specs.Dataflow.{Dataflow, system_of}
use Rattle.fw_flow.specs.WellFormed.{IsWellFormedSystem}
use Rattle.fw_model.specs.Machine.{Machine}
use Rattle.fw_model.specs.Reached.{IsReached}
use Rattle.fw_keep.specs.Stored.{Records, IsThereUnder}
use Rattle.fw_regain.specs.Down.{down}
use Rattle.fw_regain.specs.RootOf.{IsRootOf}
use Rattle.fw_root.specs.declared.root.NamedWrite.{NamedWrite}
use Rattle.fw_root.specs.declared.root.Root.{Root}
use Rattle.fw_root.specs.OfFlow.{Given}
use Rattle.fw_root.specs.Sound.{IsRootFor}
use Rattle.fw_resume.specs.Named.{AreNamed}

-- An engine can start again from the root and the records, and holds then what is left of the state: all that `resume` asks. Steps of a
-- well-formed system lead to the state, the root is one of it and of the flow and its batches, and the records hold the writes that it
-- names.
pub record IsResumable (flow : Dataflow) (batches : Given) (state : Machine) (root : Root) (records : Option Records) : Type 0 where
  pub well_formed : IsWellFormedSystem (system_of flow batches)
  pub reached : IsReached (system_of flow batches) state
  pub of_flow : IsRootFor flow batches root
  pub of_state : IsRootOf (system_of flow batches) state root
  pub named : AreNamed (system_of flow batches) (down (system_of flow batches) state) root records
  pub there : AllByRecursion (λ (w : NamedWrite). IsThereUnder w.id records) root.writes
