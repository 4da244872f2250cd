use Rattle.std.proofs.Common.{◌≡◌, ◌++◌}
use Rattle.fw_progress.proofs.tally.listed.Given as goal

abbrev pub invariant-loop-at : goal.invariant-loop-at
invariant-loop-at l = l.entries.items ++ l.at-iterator ≡ l.counts.entries
