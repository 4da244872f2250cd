use Rattle.fw_resume.specs.Told.{AreBatchesTold}
use Rattle.fw_resume.proofs.told.batches_told.Given as goal

abbrev pub invariant-loop-place : goal.invariant-loop-place
invariant-loop-place l = AreBatchesTold l.batches l.place l.counts.items
