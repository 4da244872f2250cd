use Rattle.std.proofs.Common.{◌≡◌, ◌++◌}
use Rattle.fw_totals.specs.Totals.{raised_recs, shown_entries}
use Rattle.fw_totals.proofs.totals.added.Given as goal

abbrev pub invariant-loop-key : goal.invariant-loop-key
invariant-loop-key l = l.recs.items ++ raised_recs l.totals (shown_entries l.key-iterator) ≡ raised_recs l.totals (shown_entries l.sums.entries)
