use Rattle.std.proofs.Common.{◌≡◌, ◌++◌}
use Rattle.fw_denote.proofs.distinct.listed.Given as goal

abbrev pub invariant-loop-r : goal.invariant-loop-r
invariant-loop-r l = l.recs.items ++ l.r-iterator ≡ l.seen.keys
