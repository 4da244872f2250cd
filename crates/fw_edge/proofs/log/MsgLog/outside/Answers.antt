use Rattle.std.proofs.Common.{not, filter, ap, ◌∙◌}
use Rattle.fw_frontier.specs.Front.{inside}
use Rattle.fw_flow.specs.declared.event.Message.{Message}
use Rattle.fw_model.specs.SortedMessages.{sorted_messages}
use Rattle.fw_model.proofs.SortedLaws.{sorted_messages-filter}
use Rattle.fw_edge.specs.Messages.{MessagesState}
use Rattle.fw_edge.proofs.LogLaws.{in_order-filter, copied-all}
use Rattle.fw_edge.proofs.log.MsgLog.outside.Goals as goal

pub in_order-requires : goal.in_order-requires
in_order-requires c = λ t.
    let test = λ (m : Message). not (inside c.args.f.now m.at) in
    let all =
    copied-all test c.loop-message.message-index c.deref-message-items.result.now c.self.inside.messages.items c.loop-message.copies.items
    c.deref-message-items.ensures.value c.loop-message-test.false c.loop-message.invariant in
    in_order-filter test c.self.inside.messages.items c.loop-message.copies.items all (c.self.invariant.0 t)

pub returns : goal.returns
returns c =
    let test = λ (m : Message). not (inside c.args.f.now m.at) in
    let all =
    copied-all test c.loop-message.message-index c.deref-message-items.result.now c.self.inside.messages.items c.loop-message.copies.items
    c.deref-message-items.ensures.value c.loop-message-test.false c.loop-message.invariant in
    c.in_order.ensures ∙ ap sorted_messages all ∙ sorted_messages-filter test c.self.inside.messages.items
    ∙ ap (λ (s : MessagesState). filter test s.messages) c.self.view_is
