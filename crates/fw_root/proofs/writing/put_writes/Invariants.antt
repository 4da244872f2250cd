use Rattle.std.proofs.Common.{◌≡◌, ◌++◌, length, take}
use Rattle.std.specs.List.{flat_map}
use Rattle.fw_bytes.specs.Spelling.{u64_bytes}
use Rattle.fw_root.specs.Spelling.{named_write_bytes}
use Rattle.fw_root.proofs.writing.put_writes.Given as goal

abbrev pub invariant-loop-write : goal.invariant-loop-write
invariant-loop-write l = l.out.items ≡ (l.fn.out.items ++ u64_bytes (length l.writes)) ++ flat_map named_write_bytes (take l.write-index l.writes)
