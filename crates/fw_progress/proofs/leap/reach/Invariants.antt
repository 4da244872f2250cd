use Rattle.fw_progress.proofs.LeapLaws.{AreReached}
use Rattle.fw_progress.proofs.leap.reach.Given as goal

abbrev pub invariant-loop-place : goal.invariant-loop-place
invariant-loop-place l = AreReached l.flow l.counts l.place l.fn.fronts.items l.next l.fronts.items l.fn.work l.work l.fn.growths.items l.growths.items
