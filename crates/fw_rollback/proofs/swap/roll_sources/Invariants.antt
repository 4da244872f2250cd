use Rattle.fw_rollback.proofs.SwapLaws.{AreRolledBefore}
use Rattle.fw_rollback.proofs.swap.roll_sources.Given as goal

abbrev pub invariant-loop-place : goal.invariant-loop-place
invariant-loop-place l = AreRolledBefore l.choice l.place l.initial.sources l.sources
