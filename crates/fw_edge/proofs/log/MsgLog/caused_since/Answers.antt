use Rattle.std.proofs.Common.{Bool, not, ◌&&◌, filter, ap, ◌∙◌}
use Rattle.fw_frontier.specs.Front.{inside}
use Rattle.fw_flow.specs.declared.event.Message.{Message}
use Rattle.fw_flow.specs.Projection.{all_inside}
use Rattle.fw_model.specs.SortedMessages.{sorted_messages}
use Rattle.fw_model.proofs.SortedLaws.{sorted_messages-filter}
use Rattle.fw_edge.specs.Messages.{MessagesState}
use Rattle.fw_edge.proofs.LogLaws.{in_order-filter, copied-since, filter-both}
use Rattle.fw_edge.proofs.log.MsgLog.caused_since.Goals as goal

pub in_order-requires : goal.in_order-requires
in_order-requires c = λ t.
    let since : Message → Bool = λ m. not (all_inside (inside c.args.earlier.now) m.causes) in
    let from : Message → Bool = λ m. all_inside (inside c.args.f.now) m.causes in
    let old = c.self.inside.messages.items in
    let all =
    copied-since since from c.messages_since-messages.result.now c.deref.result.now old c.in_ok-copies.copies.items c.in_ok-copies.ensures c.messages_since-messages.ensures
    c.deref.ensures.value in
    in_order-filter (λ m. since m && from m) old c.in_ok-copies.copies.items all (c.self.invariant.0 t)

pub returns : goal.returns
returns c =
    let since : Message → Bool = λ m. not (all_inside (inside c.args.earlier.now) m.causes) in
    let from : Message → Bool = λ m. all_inside (inside c.args.f.now) m.causes in
    let test = λ (m : Message). since m && from m in
    let old = c.self.inside.messages.items in
    let all =
    copied-since since from c.messages_since-messages.result.now c.deref.result.now old c.in_ok-copies.copies.items c.in_ok-copies.ensures c.messages_since-messages.ensures
    c.deref.ensures.value in
    c.in_order.ensures ∙ ap sorted_messages all ∙ sorted_messages-filter test old ∙ ap (λ (s : MessagesState). filter test s.messages) c.self.view_is
    ∙ filter-both since from c.args.self.now.messages
