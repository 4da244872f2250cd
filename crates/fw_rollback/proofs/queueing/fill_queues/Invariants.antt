use Rattle.fw_rollback.proofs.BuildLaws.{AreFilledBefore}
use Rattle.fw_rollback.proofs.queueing.fill_queues.Given as goal

abbrev pub invariant-loop-place : goal.invariant-loop-place
invariant-loop-place l = AreFilledBefore l.flow l.choice l.kept l.built l.place l.queues
