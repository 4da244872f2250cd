use Rattle.fw_progress.proofs.StartLaws.{WaitUpTo}
use Rattle.fw_progress.proofs.start.all_wait.Given as goal

abbrev pub invariant-loop-place : goal.invariant-loop-place
invariant-loop-place l = WaitUpTo l.flow l.place l.work
