use Rattle.fw_resume.specs.Counted.{ArePendingOf, HaveSmallCounts}
use Rattle.fw_resume.proofs.counts.pending_of.Given as goal

abbrev pub invariant-loop-place : goal.invariant-loop-place
invariant-loop-place l = ArePendingOf l.progress.counts l.place l.all.items × HaveSmallCounts l.all.items
