use Rattle.std.proofs.Common.{◌≡◌, List, ◌∷◌, ◌++◌, [], rules, sym, ap, subst, ◌∙◌}
use Rattle.fw_flow.specs.declared.event.Message.{Message}
use Rattle.fw_model.specs.SortedMessages.{with_message, sorted_messages}
use Rattle.fw_edge.specs.Causes.{ComeInTurn}
use Rattle.fw_edge.specs.Messages.{MessagesState}
use Rattle.fw_edge.proofs.LogLaws.{sorted_messages-appended}
use Rattle.fw_edge.proofs.log.MsgLog.append.Goals as goal

pub returns-clause-ok : goal.returns-clause-ok
returns-clause-ok c =
    let old = c.self.inside.messages.items in
    let message = c.args.message in
    let items : c.push.new.self.items ≡ old ++ message ∷ [] = search rules in
    let put =
    ap sorted_messages items ∙ sorted_messages-appended old message ∙ ap (λ (s : MessagesState). with_message message s.messages) c.self.view_is in
    λ i. record { messages = put i; refused = c.if-self.false i }

pub invariant_of-self : goal.invariant_of-self
invariant_of-self c =
    let items : c.push.new.self.items ≡ c.self.inside.messages.items = search rules in (
      λ t. subst (λ (xs : List Message). sorted_messages xs ≡ xs) (sym items) (c.self.invariant.0 t),
      λ t. subst ComeInTurn (sym items) (c.self.invariant.1 t),
    )

pub invariant_of-self-2 : goal.invariant_of-self-2
invariant_of-self-2 c =
    let message = c.args.message in
    let items : c.push.new.self.items ≡ c.self.inside.messages.items ++ c.args.message ∷ [] = search rules in (
      λ t.
          subst (λ (xs : List Message). sorted_messages xs ≡ xs) (sym items)
          (subst (λ (xs : List Message). sorted_messages (xs ++ message ∷ []) ≡ xs ++ message ∷ []) c.deref.ensures.value (c.ascend_with-ascends.ensures.in_order t)),
      λ t.
          subst ComeInTurn (sym items)
          (subst (λ (xs : List Message). ComeInTurn (xs ++ message ∷ [])) c.deref-2.ensures.value (c.come_in_turn_with-in_turn.ensures.in_turn t)),
    )
