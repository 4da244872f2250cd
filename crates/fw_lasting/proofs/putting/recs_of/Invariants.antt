use Rattle.std.proofs.Common.{◌≡◌, ◌++◌}
use Rattle.fw_lasting.proofs.putting.recs_of.Given as goal

abbrev pub invariant-loop-rec : goal.invariant-loop-rec
invariant-loop-rec l = l.recs.items ++ l.rec-iterator ≡ l.batch.recs
