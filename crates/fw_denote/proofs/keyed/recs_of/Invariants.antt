use Rattle.std.proofs.Common.{◌≡◌, ◌++◌, map}
use Rattle.fw_denote.specs.Numbers.{entry_rec}
use Rattle.fw_denote.proofs.keyed.recs_of.Given as goal

abbrev pub invariant-loop-slot : goal.invariant-loop-slot
invariant-loop-slot l = l.recs.items ++ map entry_rec l.slot-iterator ≡ map entry_rec l.numbers.entries
