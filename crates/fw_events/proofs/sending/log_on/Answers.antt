use Rattle.std.proofs.Common.{ap, ◌∙◌}
use Rattle.std.proofs.lemmas.Result.{on_ok_weaker}
use Rattle.fw_frontier.specs.Front.{Front, inside}
use Rattle.fw_flow.specs.Dataflow.{receiver}
use Rattle.fw_model.specs.Carried.{carried}
use Rattle.fw_model.specs.Filtering.{messages_outside}
use Rattle.fw_model.specs.SortedMessages.{with_messages}
use Rattle.fw_running.specs.Kept.{log_at}
use Rattle.fw_events.specs.Outgoing.{outgoing_messages}
use Rattle.fw_events.specs.Sending.{with_logs}
use Rattle.fw_events.proofs.SendLaws.{low-read}
use Rattle.fw_events.proofs.SendingLaws.{logs-on, part-carries}
use Rattle.fw_events.proofs.sending.log_on.Goals as goal

pub returns-clause-logged : goal.returns-clause-logged
returns-clause-logged c =
    let old = c.args.running.now in
    let ms = outgoing_messages c.args.outgoing.now in
    let low = low-read old.parts.low c.as_slice.result.now c.place.result c.dst-receiver.result (receiver old.flow c.args.edge) c.index-as_slice-place.result
    c.as_slice.ensures c.place.ensures c.dst-receiver.ensures c.index-as_slice-place.is c.requires.low in
    on_ok_weaker c.log_in.result (λ here.
    logs-on old (with_logs c.log_in.new.logs old) c.args.edge ms c.log_in.ensures.each
    (here ∙ ap (λ xs. with_messages (messages_outside (inside c.index-as_slice-place.result) xs) (log_at old c.args.edge))
    (part-carries old.flow c.args.edge c.dst-receiver.result c.part-part.result ms c.part-part.ensures c.dst-receiver.ensures)
    ∙ ap (λ (f : Front). with_messages (messages_outside (inside f) (carried old.flow c.args.edge ms)) (log_at old c.args.edge)) low) c.log_in.ensures.others) c.log_in.ensures.here
