use Rattle.fw_resume.specs.Counted.{AreOwedOf}
use Rattle.fw_resume.proofs.counts.owed_of.Given as goal

abbrev pub invariant-loop-place : goal.invariant-loop-place
invariant-loop-place l = AreOwedOf l.progress.counts l.place l.all.items
