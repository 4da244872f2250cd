use Rattle.std.proofs.Common.{take}
use Rattle.std.specs.List.{AllByRecursion}
use Rattle.fw_settle.specs.Checkpoints.{Precedes}
use Rattle.fw_settle.proofs.checking.is_least.Given as goal

abbrev pub invariant-loop-stamp : goal.invariant-loop-stamp
invariant-loop-stamp l = AllByRecursion (Precedes l.first) (take l.stamp-index l.later)
