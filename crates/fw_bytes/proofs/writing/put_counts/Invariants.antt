use Rattle.std.proofs.Common.{◌≡◌, ◌++◌, length, take}
use Rattle.std.specs.List.{flat_map}
use Rattle.fw_bytes.specs.Spelling.{u32_bytes, sent_count_bytes}
use Rattle.fw_bytes.proofs.writing.put_counts.Given as goal

abbrev pub invariant-loop-sent : goal.invariant-loop-sent
invariant-loop-sent l = l.out.items ≡ (l.fn.out.items ++ u32_bytes (length l.counts)) ++ flat_map sent_count_bytes (take l.sent-index l.counts)
