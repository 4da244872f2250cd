use Rattle.std.proofs.Common.{Some}
use Rattle.fw_flow.specs.declared.event.Message.{Message}
use Rattle.fw_model.specs.Steps.{is_asked}
use Rattle.fw_events.proofs.AskedLaws.{taken-here, taken-nowhere}
use Rattle.fw_events.proofs.delivery.take_first.Goals as goal

pub returns-in-Some-clause-here : goal.returns-in-Some-clause-here
returns-in-Some-clause-here c =
    taken-here c.args.queues.now c.args.edge c.in-Some.queue.now c.take-message.new.self (λ (x : Message). is_asked (Some c.args.at.now) x.at) c.take-message.result
    c.in-Some.ensures.value c.take-message.ensures.value c.take-message.ensures.taken c.take-message.ensures.unchanged

pub returns-in_default-clause-here : goal.returns-in_default-clause-here
returns-in_default-clause-here c =
    taken-nowhere c.args.queues.now c.args.edge (λ (x : Message). is_asked (Some c.args.at.now) x.at) c.in_default.ensures.value
