use Rattle.std.proofs.Common.{ap, ◌∙◌}
use Rattle.fw_model.specs.SortedMessages.{with_messages}
use Rattle.fw_running.specs.Kept.{queue_at}
use Rattle.fw_events.specs.Outgoing.{outgoing_messages}
use Rattle.fw_events.proofs.SendingLaws.{part-carries, puts-noted, queues-kept}
use Rattle.fw_events.proofs.sending.put_on.Goals as goal

pub returns-clause-others : goal.returns-clause-others
returns-clause-others c = queues-kept c.args.running.now c.note_pending.new.running c.put_in.new.queues c.note_pending.ensures.others

pub returns-clause-put : goal.returns-clause-put
returns-clause-put c =
    let old = c.args.running.now in
    let e = c.args.edge in
    let ms = outgoing_messages c.args.outgoing.now in
    puts-noted old c.note_pending.new.running e ms c.put_in.new.queues c.nothing_pending-none_before.result
    c.note_pending.ensures.others c.put_in.ensures.each
    (c.in_ok-put_in.ensures.here ∙ ap (λ xs. with_messages xs (queue_at old e)) (part-carries old.flow e c.dst.result c.part-part.result ms c.part-part.ensures c.dst.ensures))
    c.put_in.ensures.others c.nothing_pending-none_before.ensures c.in_ok-note_pending.ensures.put c.note_pending.ensures.stays c.note_pending.ensures.none
