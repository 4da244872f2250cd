use Rattle.std.proofs.Common.{◌≡◌, List, length, sym, ap, subst, ◌∙◌}
use Rattle.std.proofs.lemmas.Bool.{eqb-true, eq-eqb}
use Rattle.std.proofs.lemmas.List.{nil_from_length}
use Rattle.fw_flow.specs.declared.event.Message.{Message}
use Rattle.fw_model.specs.SortedMessages.{sorted_messages}
use Rattle.fw_model.proofs.SortedLaws.{sorted_messages-twice}
use Rattle.fw_edge.specs.Messages.{MessagesState}
use Rattle.fw_edge.proofs.LogLaws.{sorted_messages-none}
use Rattle.fw_edge.proofs.log.MsgLog.is_empty.Goals as goal

pub returns-clause-empty : goal.returns-clause-empty
returns-clause-empty c =
    let xs = c.self.inside.messages.items in
    let len = c.self.inside.messages.ok.0 in
    let view = ap (λ (s : MessagesState). s.messages) c.self.view_is in (
      λ h. sym view ∙ ap sorted_messages (nil_from_length xs (sym len ∙ eqb-true c.self.inside.messages.len 0 (sym c.is_empty.ensures ∙ h))),
      λ h. c.is_empty.ensures ∙ eq-eqb c.self.inside.messages.len 0 (len ∙ ap length (sorted_messages-none xs (view ∙ h))),
    )

pub returns-clause-ascending : goal.returns-clause-ascending
returns-clause-ascending c =
    subst (λ (xs : List Message). sorted_messages xs ≡ xs) (ap (λ (s : MessagesState). s.messages) c.self.view_is)
    (sorted_messages-twice c.self.inside.messages.items)
