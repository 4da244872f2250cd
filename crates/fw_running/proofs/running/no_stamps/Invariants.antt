use Rattle.std.proofs.Common.{◌≡◌, [], replicate}
use Rattle.fw_running.proofs.running.no_stamps.Given as goal

abbrev pub invariant-loop-place : goal.invariant-loop-place
invariant-loop-place l = l.lists.items ≡ replicate l._place []
