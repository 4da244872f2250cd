use Rattle.std.proofs.Common.{◌≡◌, ◌++◌, length, take}
use Rattle.std.specs.List.{flat_map}
use Rattle.fw_bytes.specs.Spelling.{u64_bytes}
use Rattle.fw_root.specs.Spelling.{pending_at_bytes}
use Rattle.fw_root.proofs.writing.put_pending.Given as goal

abbrev pub invariant-loop-pending : goal.invariant-loop-pending
invariant-loop-pending l = l.out.items ≡ (l.fn.out.items ++ u64_bytes (length l.counts)) ++ flat_map pending_at_bytes (take l.pending-index l.counts)
