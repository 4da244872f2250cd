-- What the functions that read roots give.
use Rattle.std.specs.Prelude.{◌≡◌, ℕ, ◌+◌, List, length, Result, Ok, Err}
use Rattle.fw_flow.specs.Dataflow.{Dataflow}
use Rattle.fw_root.specs.declared.fault.BadRoot.{BadRoot}
use Rattle.fw_root.specs.declared.fault.RootFault.{RootFault}
use Rattle.fw_root.specs.declared.fault.RootFault.TheVariants as answer
use Rattle.fw_root.specs.declared.root.Head.{Head}
use Rattle.fw_root.specs.declared.root.Root.{Root}
use Rattle.fw_root.specs.OfFlow.{Given}
use Rattle.fw_root.specs.Reading.{read_root_head, root_reading}

-- the head with which these bytes begin, or the place in them at which the first broken field begins
abbrev pub IsHeadOf : List ℕ → Result Head BadRoot → Type 0
IsHeadOf bytes (Ok head) = (rest : List ℕ) × (read_root_head bytes ≡ Ok (head, rest))
IsHeadOf bytes (Err bad) = (left : ℕ) × (read_root_head bytes ≡ Err left) × (bad.at + left ≡ length bytes)

-- the root of the dataflow that these bytes give, or the place in them at which the first broken field begins
abbrev pub DecodesRoot : Dataflow → Given → List ℕ → Result Root RootFault → Type 0
DecodesRoot flow batches bytes (Ok r) = root_reading flow batches bytes ≡ Ok r
DecodesRoot flow batches bytes (Err (answer.BadRoot at)) = (left : ℕ) × (root_reading flow batches bytes ≡ Err left) × (at + left ≡ length bytes)
DecodesRoot flow batches bytes (Err answer.NoMemory) = Unit {0}

-- the answer is this root, or want of memory
abbrev pub IsRootOrNoMemory : Root → Result Root RootFault → Type 0
IsRootOrNoMemory r (Ok q) = q ≡ r
IsRootOrNoMemory r (Err (answer.BadRoot at)) = ⊥
IsRootOrNoMemory r (Err answer.NoMemory) = Unit {0}
