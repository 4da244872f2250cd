use Rattle.fw_progress.specs.Settle.{AreGrown}
use Rattle.fw_progress.proofs.settle.grown.Given as goal

abbrev pub invariant-loop-place : goal.invariant-loop-place
invariant-loop-place l = AreGrown l.flow l.place l.failed l.settled l.kept l.both.items
