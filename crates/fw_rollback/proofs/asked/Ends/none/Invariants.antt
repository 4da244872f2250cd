use Rattle.std.proofs.Common.{◌≡◌, false, replicate}
use Rattle.fw_rollback.proofs.asked.Ends.none.Given as goal

abbrev pub invariant-loop-place : goal.invariant-loop-place
invariant-loop-place l = l.there.items ≡ replicate l._place false
