use Rattle.std.proofs.Common.{◌≡◌, None, replicate}
use Rattle.fw_rollback.proofs.asked.Wholes.none.Given as goal

abbrev pub invariant-loop-place : goal.invariant-loop-place
invariant-loop-place l = l.fronts.items ≡ replicate l._place None
