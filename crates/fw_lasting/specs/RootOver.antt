-- Roots of a state of the machine over batches.
use Rattle.std.specs.Prelude.{List, Option}
use Rattle.fw_bag.specs.declared.rec.Rec.{Rec}
use Rattle.fw_flow.specs.Dataflow.{Dataflow}
use Rattle.fw_keep.specs.Stored.{Records}
use Rattle.fw_model.specs.Machine.{Machine}
use Rattle.fw_feeding.specs.Feeding.{with_batches}
use Rattle.fw_named.specs.Named.{AreNamed}
use Rattle.fw_regain.specs.RootOf.{IsRootOf}
use Rattle.fw_root.specs.declared.root.Root.{Root}
use Rattle.fw_root.specs.Sound.{IsRootFor}
use Rattle.fw_lasting.specs.Given.{batches_by_node}

-- A root is one of a state of the machine over batches: it has their form, it tells the state, and records hold the writes that it names.
pub record IsRootOver (flow : Dataflow) (batches : List (List (List Rec))) (state : Machine) (root : Root) (records : Option Records) : Type 0 where
  pub of_flow : IsRootFor flow (batches_by_node batches) root
  pub of_state : IsRootOf (with_batches flow batches) state root
  pub named : AreNamed (with_batches flow batches) state root records
