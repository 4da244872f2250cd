use Rattle.fw_rollback.proofs.SwapLaws.{AreClearedBefore}
use Rattle.fw_rollback.proofs.swap.clear_outputs.Given as goal

abbrev pub invariant-loop-place : goal.invariant-loop-place
invariant-loop-place l = AreClearedBefore l.choice l.place l.initial.outputs l.outputs
