use Rattle.std.proofs.Common.{◌≡◌, filter, rules, ap, ◌∙◌}
use Rattle.std.proofs.lemmas.Fn.{filter_same}
use Rattle.fw_frontier.specs.Front.{inside}
use Rattle.fw_flow.specs.declared.event.Message.{Message}
use Rattle.fw_flow.specs.Projection.{all_inside}
use Rattle.fw_model.specs.SortedMessages.{sorted_messages}
use Rattle.fw_model.proofs.SortedLaws.{sorted_messages-filter}
use Rattle.fw_edge.specs.Messages.{MessagesState}
use Rattle.fw_edge.proofs.LogLaws.{in_order-filter, in_turn-filter}
use Rattle.fw_edge.proofs.log.MsgLog.keep_causes.Goals as goal

pub invariant_of-self : goal.invariant_of-self
invariant_of-self c =
    let test = λ (m : Message). all_inside (inside c.args.f.now) m.causes in
    let old = c.self.inside.messages.items in
    let left : c.retain.new.self.items ≡ filter test old = filter_same _ test _ (λ x b g k. search rules) _ _ c.retain.ensures.filtered in (
      λ t. in_order-filter test old c.retain.new.self.items left (c.self.invariant.0 t),
      λ t. in_turn-filter test old c.retain.new.self.items left (c.self.invariant.1 t),
    )

pub returns : goal.returns
returns c =
    let test = λ (m : Message). all_inside (inside c.args.f.now) m.causes in
    let old = c.self.inside.messages.items in
    let left : c.retain.new.self.items ≡ filter test old = filter_same _ test _ (λ x b g k. search rules) _ _ c.retain.ensures.filtered in
    let all =
    ap sorted_messages left ∙ sorted_messages-filter test old ∙ ap (λ (s : MessagesState). filter test s.messages) c.self.view_is in
    λ i. record { messages = all i; refused = ap (λ (s : MessagesState). s.refused) c.self.view_is i }
