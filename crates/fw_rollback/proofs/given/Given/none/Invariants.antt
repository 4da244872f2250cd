use Rattle.std.proofs.Common.{◌≡◌, [], replicate}
use Rattle.fw_rollback.proofs.given.Given.none.Given as goal

abbrev pub invariant-loop-place : goal.invariant-loop-place
invariant-loop-place l = l.given.items ≡ replicate l._place []
