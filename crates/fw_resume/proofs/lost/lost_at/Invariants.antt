use Rattle.std.proofs.Common.{◌≡◌, filter, take}
use Rattle.fw_frontier.specs.Front.{inside}
use Rattle.fw_resume.proofs.lost.lost_at.Given as goal

abbrev pub invariant-loop-stamp : goal.invariant-loop-stamp
invariant-loop-stamp l = l.stamps.items ≡ filter (inside l.fronts.settled) (take l.stamp-index l.fronts.third)
