use Rattle.std.proofs.Common.{◌≡◌, ◌++◌, length, take}
use Rattle.std.specs.List.{flat_map}
use Rattle.fw_bytes.specs.Spelling.{u32_bytes, stamp_bytes}
use Rattle.fw_bytes.proofs.writing.put_front.Given as goal

abbrev pub invariant-loop-stamp : goal.invariant-loop-stamp
invariant-loop-stamp l = l.out.items ≡ (l.fn.out.items ++ u32_bytes (length l.stamps)) ++ flat_map stamp_bytes (take l.stamp-index l.stamps)
