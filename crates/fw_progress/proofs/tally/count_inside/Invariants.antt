use Rattle.std.proofs.Common.{◌≡◌, ◌+◌}
use Rattle.fw_frontier.specs.Front.{inside}
use Rattle.fw_progress.specs.Tally.{count_inside}
use Rattle.fw_progress.proofs.tally.count_inside.Given as goal

abbrev pub invariant-loop-stamp : goal.invariant-loop-stamp
invariant-loop-stamp l = l.sum + count_inside (inside l.f) l.stamp-iterator ≡ count_inside (inside l.f) l.counts.entries
