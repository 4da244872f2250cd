use Rattle.std.proofs.Common.{◌≡◌, take}
use Rattle.fw_progress.specs.Cut.{epochs_inside_of_first}
use Rattle.fw_progress.proofs.cut.epochs_inside.Given as goal

abbrev pub invariant-loop-stamp : goal.invariant-loop-stamp
invariant-loop-stamp l = l.left ≡ epochs_inside_of_first (take l.stamp-index l.outside) l.count
