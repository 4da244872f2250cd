use Rattle.std.proofs.Common.{Some, refl}
use Rattle.std.specs.Prelude.{find}
use Rattle.fw_flow.specs.declared.event.Message.{Message}
use Rattle.fw_model.specs.Steps.{is_asked}
use Rattle.fw_running.specs.Kept.{queue_at}
use Rattle.fw_events.specs.Sending.{with_queues}
use Rattle.fw_events.proofs.TakenShapes.{shaped-taken, taken-off}
use Rattle.fw_events.proofs.delivery.take_pending.Goals as goal

pub returns-clause-shaped : goal.returns-clause-shaped
returns-clause-shaped c =
    let old = c.args.running.now in
    shaped-taken old (with_queues c.take_first.new.queues old.ready.edges old) c.args.edge
    (find (λ (x : Message). is_asked (Some c.args.at.now) x.at) (queue_at old c.args.edge)) c.requires.shaped refl
    c.take_first.ensures.each c.take_first.ensures.here c.take_first.ensures.others

pub returns-clause-taken : goal.returns-clause-taken
returns-clause-taken c = λ m is.
    let old = c.args.running.now in
    taken-off old (with_queues c.take_first.new.queues old.ready.edges old) c.args.edge
    (find (λ (x : Message). is_asked (Some c.args.at.now) x.at) (queue_at old c.args.edge)) m is c.take_first.ensures.here c.take_first.ensures.others
