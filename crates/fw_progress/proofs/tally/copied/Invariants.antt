use Rattle.std.proofs.Common.{◌≡◌, ◌++◌}
use Rattle.fw_progress.proofs.tally.copied.Given as goal

abbrev pub invariant-loop-at : goal.invariant-loop-at
invariant-loop-at l = l.copy.entries ++ l.at-iterator ≡ l.counts.entries
