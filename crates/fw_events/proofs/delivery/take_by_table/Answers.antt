use Rattle.std.proofs.Common.{◌≡◌, Option, ap, subst, sym, ◌∙◌}
use Rattle.std.specs.Prelude.{IfSome}
use Rattle.std.proofs.lemmas.Result.{on_ok_weaker}
use Rattle.fw_flow.specs.declared.event.Event.TheVariants.{Deliver}
use Rattle.fw_flow.specs.Dataflow.{Dataflow, receiver}
use Rattle.fw_node.specs.declared.sends.Sends.{Sends}
use Rattle.fw_node.specs.NodeOf.{CanBeSent, stamps_of}
use Rattle.fw_node.specs.Sends.{messages_of, sends_list}
use Rattle.fw_node.proofs.MessageLaws.{messages-recs}
use Rattle.fw_running.specs.declared.running.Running.{Running}
use Rattle.fw_running.specs.Kept.{table_of}
use Rattle.fw_events.specs.Taking.{TableTakes}
use Rattle.fw_events.proofs.TakingLaws.{can-tell, hears-of, still-owing}
use Rattle.fw_events.proofs.delivery.take_by_table.Goals as goal

pub send-requires-clause-can_be_sent : goal.send-requires-clause-can_be_sent
send-requires-clause-can_be_sent c =
    let noted = c.note_owing.new.running in
    subst (λ (f : Dataflow). CanBeSent f c.args.node (stamps_of c.in-Some.sends)) (sym (ap (λ (r : Running). r.flow) c.table_takes.ensures.others))
    (subst (λ (o : Option Sends). IfSome o (λ sends. CanBeSent noted.flow c.args.node (stamps_of sends))) c.in-Some.is c.in_ok-sends.ensures.can_be_sent)

pub tell_delivered-requires-clause-sent : goal.tell_delivered-requires-clause-sent
tell_delivered-requires-clause-sent c =
    let noted = c.note_owing.new.running in
    let put = c.send.new.running in
    let flow : put.flow ≡ noted.flow = ap (λ (r : Running). r.flow) c.send.ensures.others ∙ ap (λ (r : Running). r.flow) c.table_takes.ensures.others in
    let flows : put.flow ≡ c.args.running.now.flow = flow ∙ ap (λ (r : Running). r.flow) c.note_owing.ensures.others in
    can-tell noted.flow put.flow c.args.node (receiver put.flow c.args.edge) (sends_list c.in-Some.sends) c.as_slice.result.now flow
    (c.requires.receiver ∙ ap (λ f. receiver f c.args.edge) (sym flows)) (c.as_slice.ensures ∙ c.in_ok-sent.ensures.recs)
    (subst (λ (o : Option Sends). IfSome o (λ sends. CanBeSent noted.flow c.args.node (stamps_of sends))) c.in-Some.is c.in_ok-sends.ensures.can_be_sent)

pub tell_delivered-requires-clause-owing : goal.tell_delivered-requires-clause-owing
tell_delivered-requires-clause-owing c =
    still-owing c.args.edge c.args.node c.args.running.now c.note_owing.new.running c.table_takes.new.running c.send.new.running
    c.requires.receiver c.note_owing.ensures.others c.table_takes.ensures.others c.send.ensures.others c.in_ok-note_owing.ensures.noted

pub returns-clause-takes : goal.returns-clause-takes
returns-clause-takes c = λ m at rec there.
    let old = c.args.running.now in
    let noted = c.note_owing.new.running in
    let taken = c.table_takes.new.running in
    let put = c.send.new.running in
    let v = Deliver c.args.edge m in
    let sent = messages_of c.args.at.now c.in-Some.sends in
    let table : TableTakes noted.flow v sent (table_of noted c.args.node) (table_of taken c.args.node) =
    subst (λ (o : Option Sends). IfSome o (λ sends. TableTakes noted.flow v (messages_of c.args.at.now sends) (table_of noted c.args.node) (table_of taken c.args.node)))
    c.in-Some.is (c.in_ok-sends.ensures.takes m at rec) in
    on_ok_weaker c.tell_delivered.result (λ told.
    hears-of v c.args.node c.as_slice.result.now sent old noted taken put c.tell_delivered.new.running
    c.requires.receiver (c.as_slice.ensures ∙ c.in_ok-sent.ensures.recs ∙ sym (messages-recs c.args.at.now c.in-Some.sends)) c.note_owing.ensures.others c.table_takes.ensures.others
    c.table_takes.ensures.other_tables table c.send.ensures.others c.in_ok-sent.ensures.sent c.tell_delivered.ensures.others told) (c.tell_delivered.ensures.told m at)
