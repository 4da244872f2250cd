use Rattle.std.proofs.Common.{reverse, take}
use Rattle.fw_denote.specs.Numbers.{HasNumbers, HasSlotSums, total_at}
use Rattle.fw_denote.proofs.keyed.totals.Given as goal

abbrev pub invariant-loop-r : goal.invariant-loop-r
invariant-loop-r l = record {
  totals : HasSlotSums l.totals (reverse (take l.r-index l.rs));
  by_slot : HasNumbers l.by_slot (total_at (reverse (take l.r-index l.rs))) (reverse (take l.r-index l.rs));
}
