use Rattle.std.proofs.Common.{take}
use Rattle.fw_progress.specs.StampData.{HaveAdded}
use Rattle.fw_progress.proofs.kept_stamps.KeptStamps.add_all.Given as goal

abbrev pub invariant-loop-stamp : goal.invariant-loop-stamp
invariant-loop-stamp l = HaveAdded (take l.stamp-index l.stamps) l.fn.self l.self
