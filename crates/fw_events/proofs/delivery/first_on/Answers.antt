use Rattle.std.proofs.Common.{Option, ap, sym, ◌∙◌}
use Rattle.std.specs.Borrow.{Bor}
use Rattle.std.specs.Option.{option_copied}
use Rattle.std.specs.Prelude.{find}
use Rattle.fw_time.specs.Stamp.{Stamp}
use Rattle.fw_flow.specs.declared.event.Message.{Message}
use Rattle.fw_model.specs.Steps.{is_asked}
use Rattle.fw_stands.specs.Events.{asked_of_queue}
use Rattle.fw_running.specs.Kept.{queue_at}
use Rattle.fw_events.proofs.AskedLaws.{nothing-first, queue-there}
use Rattle.fw_events.proofs.delivery.first_on.Goals as goal

pub returns-in_err-queue : goal.returns-in_err-queue
returns-in_err-queue c =
    ap (λ (r : Option (Bor Message)). option_copied r) c.from_residual.ensures
    ∙ nothing-first c.args.running.now.parts.queues c.args.edge (λ (m : Message). is_asked (asked_of_queue c.args.running.now.flow c.args.edge (option_copied c.args.at)) m.at)
    c.in_err-queue.ensures

pub returns : goal.returns
returns c =
    let running = c.args.running.now in
    c.first.ensures
    ∙ ap (find (λ (m : Message). is_asked (option_copied c.asked_of.result) m.at)) (sym (queue-there running.parts.queues c.args.edge c.in_ok-queue.queue.now c.in_ok-queue.ensures))
    ∙ ap (λ (a : Option Stamp). find (λ (m : Message). is_asked a m.at) (queue_at running c.args.edge)) c.asked_of.ensures
