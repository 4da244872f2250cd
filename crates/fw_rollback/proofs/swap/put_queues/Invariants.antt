use Rattle.std.proofs.Common.{length, get_or}
use Rattle.fw_rollback.specs.Edges.{nothing_there}
use Rattle.fw_rollback.specs.Built.{queue_put}
use Rattle.fw_rollback.proofs.PutLaws.{HasPut}
use Rattle.fw_rollback.proofs.swap.put_queues.Given as goal

abbrev pub invariant-loop-queue : goal.invariant-loop-queue
invariant-loop-queue l =
    HasPut nothing_there (λ q. queue_put l.flow l.choice q (get_or l.initial.queues q nothing_there) (get_or l.initial.rest q nothing_there)) l.initial.rest l.initial.queues l.rest l.queues

abbrev pub decreases-loop-queue : goal.decreases-loop-queue
decreases-loop-queue l = length l.rest
