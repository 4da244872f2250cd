use Rattle.std.proofs.Common.{length, get_or}
use Rattle.fw_rollback.specs.Edges.{nothing_there}
use Rattle.fw_rollback.specs.Built.{log_put}
use Rattle.fw_rollback.proofs.PutLaws.{HasPut}
use Rattle.fw_rollback.proofs.swap.put_logs.Given as goal

abbrev pub invariant-loop-log : goal.invariant-loop-log
invariant-loop-log l =
    HasPut nothing_there (λ q. log_put l.flow l.choice q (get_or l.initial.logs q nothing_there) (get_or l.initial.rest q nothing_there)) l.initial.rest l.initial.logs l.rest l.logs

abbrev pub decreases-loop-log : goal.decreases-loop-log
decreases-loop-log l = length l.rest
