use Rattle.std.proofs.Common.{◌≡◌, ◌++◌, length, take}
use Rattle.std.specs.List.{flat_map}
use Rattle.fw_bytes.specs.Spelling.{u64_bytes}
use Rattle.fw_root.specs.Spelling.{owed_at_bytes}
use Rattle.fw_root.proofs.writing.put_owed.Given as goal

abbrev pub invariant-loop-owed : goal.invariant-loop-owed
invariant-loop-owed l = l.out.items ≡ (l.fn.out.items ++ u64_bytes (length l.stamps)) ++ flat_map owed_at_bytes (take l.owed-index l.stamps)
