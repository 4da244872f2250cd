use Rattle.fw_rollback.proofs.BuildLaws.{queue-put, queue-there}
use Rattle.fw_rollback.proofs.queueing.put_outside.Goals as goal

pub returns-in-Some-clause-filled : goal.returns-in-Some-clause-filled
returns-in-Some-clause-filled c =
    queue-put c.args.front.now c.args.log.now c.in_ok-messages.messages.items c.args.queues.now c.args.edge c.in-Some.queue.now c.put_all.new.self c.put_all.result
    c.requires.there c.requires.empty c.in-Some.ensures.value c.in_ok-messages.ensures c.put_all.ensures.ok

pub returns-in-None-clause-filled : goal.returns-in-None-clause-filled
returns-in-None-clause-filled c = absurd (queue-there c.args.queues.now c.args.edge c.requires.there c.in-None.ensures.value)
