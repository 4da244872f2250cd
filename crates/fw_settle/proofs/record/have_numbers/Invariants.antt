use Rattle.std.proofs.Common.{take}
use Rattle.std.specs.List.{AllByRecursion}
use Rattle.fw_bag.specs.Bag.{IsRec}
use Rattle.fw_settle.proofs.record.have_numbers.Given as goal

abbrev pub invariant-loop-rec : goal.invariant-loop-rec
invariant-loop-rec l = AllByRecursion IsRec (take l.rec-index l.recs)
