use Rattle.std.proofs.Common.{◌≡◌, ◌++◌, take}
use Rattle.fw_progress.specs.StampData.{counted_at_stamps}
use Rattle.fw_progress.proofs.stamps.push_sent.Given as goal

abbrev pub invariant-loop-stamp : goal.invariant-loop-stamp
invariant-loop-stamp l = l.messages.items ≡ l.fn.messages.items ++ counted_at_stamps l.flow l.node (take l.stamp-index l.stamps) l.edge
