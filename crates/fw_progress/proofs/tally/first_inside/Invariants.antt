use Rattle.std.proofs.Common.{◌≡◌, find}
use Rattle.std.specs.Map.{keys_of}
use Rattle.fw_frontier.specs.Front.{inside}
use Rattle.fw_progress.proofs.tally.first_inside.Given as goal

abbrev pub invariant-loop-stamp : goal.invariant-loop-stamp
invariant-loop-stamp l = find (inside l.f) l.stamp-iterator ≡ find (inside l.f) (keys_of l.counts.entries)
