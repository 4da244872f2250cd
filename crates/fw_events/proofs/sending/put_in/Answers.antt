use Rattle.fw_model.specs.Carried.{messages_of_part}
use Rattle.fw_model.specs.SortedMessages.{with_messages}
use Rattle.fw_rollback.proofs.BuildLaws.{queue-there}
use Rattle.fw_events.specs.Outgoing.{outgoing_messages}
use Rattle.fw_events.proofs.AskedLaws.{lent-here}
use Rattle.fw_events.proofs.sending.put_in.Goals as goal

pub returns-in-Some-clause-here : goal.returns-in-Some-clause-here
returns-in-Some-clause-here c =
    lent-here c.args.queues.now c.args.edge c.in-Some.queue.now c.put_each.new.queue c.put_each.result
    (with_messages (messages_of_part c.args.part (outgoing_messages c.args.outgoing.now))) c.in-Some.ensures.value c.put_each.ensures

pub returns-in-None-clause-here : goal.returns-in-None-clause-here
returns-in-None-clause-here c = absurd (queue-there c.args.queues.now c.args.edge c.requires c.in-None.ensures.value)
