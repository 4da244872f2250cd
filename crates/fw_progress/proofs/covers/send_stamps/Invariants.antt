use Rattle.std.proofs.Common.{◌≡◌, take}
use Rattle.fw_progress.specs.Covers.{send_stamps}
use Rattle.fw_progress.proofs.covers.send_stamps.Given as goal

abbrev pub invariant-loop-stamp : goal.invariant-loop-stamp
invariant-loop-stamp l = l.sent.items ≡ send_stamps l.flow l.node (take l.stamp-index l.stamps)
