use Rattle.std.proofs.Common.{◌≡◌, take}
use Rattle.fw_progress.proofs.kept_stamps.KeptStamps.stamps.Given as goal

abbrev pub invariant-loop-stamp : goal.invariant-loop-stamp
invariant-loop-stamp l = l.stamps.items ≡ take l.stamp-index l.stamp-items
