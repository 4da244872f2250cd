use Rattle.std.proofs.Common.{◌≡◌, length}
use Rattle.fw_model.specs.Carried.{carried_recs}
use Rattle.fw_resume.proofs.traces.carries_any.Given as goal

abbrev pub invariant-loop-rec : goal.invariant-loop-rec
invariant-loop-rec l = length (carried_recs l.flow l.edge l.batch.recs) ≡ length (carried_recs l.flow l.edge l.rec-iterator)
