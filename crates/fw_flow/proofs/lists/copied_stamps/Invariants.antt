use Rattle.std.proofs.Common.{◌≡◌, take}
use Rattle.fw_flow.proofs.lists.copied_stamps.Given as goal

abbrev pub invariant-loop-stamp : goal.invariant-loop-stamp
invariant-loop-stamp l = l.copy.items ≡ take l.stamp-index l.stamps
