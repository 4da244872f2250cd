use Rattle.fw_fail.proofs.FailLaws.{none-past}
use Rattle.fw_fail.proofs.failure.clear_queue.Goals as goal

pub returns-in_default-clause-here : goal.returns-in_default-clause-here
returns-in_default-clause-here c = none-past c.args.queues.now c.args.edge c.in_default.ensures.value
