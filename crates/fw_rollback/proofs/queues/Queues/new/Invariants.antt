use Rattle.std.proofs.Common.{◌≡◌, replicate}
use Rattle.fw_rollback.specs.Edges.{nothing_there}
use Rattle.fw_rollback.proofs.queues.Queues.new.Given as goal

abbrev pub invariant-loop-place : goal.invariant-loop-place
invariant-loop-place l = l.queues.items ≡ replicate l._place nothing_there
