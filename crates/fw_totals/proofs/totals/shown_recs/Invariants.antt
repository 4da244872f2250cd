use Rattle.std.proofs.Common.{◌≡◌, ◌++◌}
use Rattle.fw_table.specs.Sums.{entry_recs}
use Rattle.fw_totals.specs.Totals.{shown_entries}
use Rattle.fw_totals.proofs.totals.shown_recs.Given as goal

abbrev pub invariant-loop-key : goal.invariant-loop-key
invariant-loop-key l = l.recs.items ++ entry_recs (shown_entries l.key-iterator) ≡ entry_recs (shown_entries l.totals.entries)
