-- Why a dataflow takes no batch of a node.
use Rattle.std.specs.Prelude.{◌≡◌, ℕ, ◌^◌, nat_le, not, List, length, if◌then◌else◌, Option, Some, None, Result, Ok, Err}
use Rattle.fw_bag.specs.declared.rec.Rec.{Rec}
use Rattle.fw_lines.specs.Batches.{batches_at}
use Rattle.fw_flow.specs.declared.batches.BatchFault.{BatchFault}
use Rattle.fw_flow.specs.declared.batches.BatchFault.TheVariants.{NoNode, NoInput, TooMany, NoMemory}
use Rattle.fw_flow.specs.Dataflow.{Dataflow, kind_of, is_input_kind}

-- what is wrong with one more batch of the node, if anything is: the dataflow has no such node, it is no input, or it has 2^20 batches
abbrev pub batch_fault : Dataflow → List (ℕ × List (List Rec)) → ℕ → Option BatchFault
batch_fault flow batches node =
    if nat_le (length flow.nodes) node then Some (NoNode node)
    else (if not (is_input_kind (kind_of flow node)) then Some (NoInput node)
    else (if nat_le (2 ^ 20) (length (batches_at batches node)) then Some (TooMany node) else None))

-- The batch is taken exactly where nothing is wrong with it, and else the fault says what is. Memory may be refused at any time.
abbrev pub IsTakenOrFault : {A : Type 0} → Option BatchFault → Result A BatchFault → Type 0
IsTakenOrFault {A} wrong (Ok a) = wrong ≡ None
IsTakenOrFault wrong (Err (NoNode node)) = wrong ≡ Some (NoNode node)
IsTakenOrFault wrong (Err (NoInput node)) = wrong ≡ Some (NoInput node)
IsTakenOrFault wrong (Err (TooMany node)) = wrong ≡ Some (TooMany node)
IsTakenOrFault wrong (Err NoMemory) = Unit {0}
