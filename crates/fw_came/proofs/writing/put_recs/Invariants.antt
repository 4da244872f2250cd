use Rattle.std.proofs.Common.{◌≡◌, ◌++◌, length, take}
use Rattle.std.specs.List.{flat_map}
use Rattle.fw_bytes.specs.Spelling.{u64_bytes}
use Rattle.fw_record.specs.Spelling.{rec_bytes}
use Rattle.fw_came.proofs.writing.put_recs.Given as goal

abbrev pub invariant-loop-rec : goal.invariant-loop-rec
invariant-loop-rec l = l.out.items ≡ (l.fn.out.items ++ u64_bytes (length l.recs)) ++ flat_map rec_bytes (take l.rec-index l.recs)
