use Rattle.std.proofs.Common.{◌≡◌, ◌++◌, map, take}
use Rattle.fw_progress.specs.StampData.{message_at}
use Rattle.fw_progress.proofs.stamps.push_at_each.Given as goal

abbrev pub invariant-loop-stamp : goal.invariant-loop-stamp
invariant-loop-stamp l = l.messages.items ≡ l.fn.messages.items ++ map (message_at l.edge) (take l.stamp-index l.stamps)
