use Rattle.std.proofs.Common.{reverse, take}
use Rattle.fw_denote.specs.Numbers.{HasNumbers, sum_of_slot}
use Rattle.fw_denote.proofs.keyed.sums.Given as goal

abbrev pub invariant-loop-r : goal.invariant-loop-r
invariant-loop-r l = HasNumbers l.sums (sum_of_slot (reverse (take l.r-index l.rs))) (reverse (take l.r-index l.rs))
