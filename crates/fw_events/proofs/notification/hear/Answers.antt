use Rattle.std.proofs.Common.{◌≡◌, Option, ap, refl, subst, sym, ◌∙◌}
use Rattle.std.specs.Prelude.{IfSome}
use Rattle.std.proofs.lemmas.Result.{on_ok_weaker}
use Rattle.fw_flow.specs.declared.event.Event.TheVariants.{Notify}
use Rattle.fw_flow.specs.Dataflow.{Dataflow}
use Rattle.fw_node.specs.declared.sends.Sends.{Sends}
use Rattle.fw_node.specs.NodeOf.{CanBeSent, stamps_of}
use Rattle.fw_node.specs.Sends.{messages_of, sends_list}
use Rattle.fw_node.proofs.MessageLaws.{messages-recs}
use Rattle.fw_running.specs.declared.running.Running.{Running}
use Rattle.fw_running.specs.Kept.{table_of}
use Rattle.fw_events.specs.Taking.{TableTakes}
use Rattle.fw_events.proofs.TakingLaws.{can-tell, hears-of, taken_by_notice}
use Rattle.fw_events.proofs.notification.hear.Goals as goal

pub send-requires-clause-can_be_sent : goal.send-requires-clause-can_be_sent
send-requires-clause-can_be_sent c =
    let old = c.args.running.now in
    subst (λ (f : Dataflow). CanBeSent f c.args.node (stamps_of c.in-Some.sends)) (sym (ap (λ (r : Running). r.flow) c.table_hears.ensures.others))
    (subst (λ (o : Option Sends). IfSome o (λ sends. CanBeSent old.flow c.args.node (stamps_of sends))) c.in-Some.is c.in_ok-sends.ensures.can_be_sent)

pub tell_notified-requires-clause-sent : goal.tell_notified-requires-clause-sent
tell_notified-requires-clause-sent c =
    let old = c.args.running.now in
    let put = c.send.new.running in
    let flow : put.flow ≡ old.flow = ap (λ (r : Running). r.flow) c.send.ensures.others ∙ ap (λ (r : Running). r.flow) c.table_hears.ensures.others in
    can-tell old.flow put.flow c.args.node c.args.node (sends_list c.in-Some.sends) c.as_slice.result.now flow refl
    (c.as_slice.ensures ∙ c.in_ok-sent.ensures.recs)
    (subst (λ (o : Option Sends). IfSome o (λ sends. CanBeSent old.flow c.args.node (stamps_of sends))) c.in-Some.is c.in_ok-sends.ensures.can_be_sent)

pub returns-clause-takes : goal.returns-clause-takes
returns-clause-takes c = λ there.
    let old = c.args.running.now in
    let taken = c.table_hears.new.running in
    let put = c.send.new.running in
    let v = Notify c.args.node c.args.at.now in
    let sent = messages_of c.args.at.now c.in-Some.sends in
    let table : TableTakes old.flow v sent (table_of old c.args.node) (table_of taken c.args.node) =
    subst (λ (o : Option Sends). IfSome o (λ sends. TableTakes old.flow v (messages_of c.args.at.now sends) (table_of old c.args.node) (table_of taken c.args.node)))
    c.in-Some.is c.in_ok-sends.ensures.takes in
    on_ok_weaker c.tell_notified.result (λ told.
    taken_by_notice c.args.node c.args.at.now old c.tell_notified.new.running
    (hears-of v c.args.node c.as_slice.result.now sent old old taken put c.tell_notified.new.running
    refl (c.as_slice.ensures ∙ c.in_ok-sent.ensures.recs ∙ sym (messages-recs c.args.at.now c.in-Some.sends)) refl c.table_hears.ensures.others
    c.table_hears.ensures.other_tables table c.send.ensures.others c.in_ok-sent.ensures.sent c.tell_notified.ensures.others told)) c.tell_notified.ensures.told
