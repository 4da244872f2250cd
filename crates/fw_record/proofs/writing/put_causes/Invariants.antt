use Rattle.std.proofs.Common.{◌≡◌, ◌++◌, take}
use Rattle.std.specs.List.{flat_map}
use Rattle.fw_bytes.specs.Spelling.{stamp_bytes}
use Rattle.fw_record.proofs.writing.put_causes.Given as goal

abbrev pub invariant-loop-cause : goal.invariant-loop-cause
invariant-loop-cause l = l.out.items ≡ l.fn.out.items ++ flat_map stamp_bytes (take l.cause-index l.stamps)
