use Rattle.std.proofs.Common.{◌≡◌, drop}
use Rattle.fw_keep.specs.Joined.{totals_over}
use Rattle.fw_keep.proofs.joined.put_totals.Given as goal

abbrev pub invariant-loop-rec : goal.invariant-loop-rec
invariant-loop-rec l = totals_over l.totals.entries (drop l.rec-index l.recs) ≡ totals_over l.initial.totals.entries l.recs
