use Rattle.std.proofs.Common.{◌≡◌, ◌++◌}
use Rattle.fw_table.specs.Sums.{entry_recs}
use Rattle.fw_table.proofs.sums.recs_of_entries.Given as goal

abbrev pub invariant-loop-key : goal.invariant-loop-key
invariant-loop-key l = l.recs ++ entry_recs l.key-iterator ≡ entry_recs l.sums.entries
