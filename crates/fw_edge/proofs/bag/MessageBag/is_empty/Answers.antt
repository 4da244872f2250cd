use Rattle.std.proofs.Common.{◌≡◌, List, length, sym, ap, subst, ◌∙◌}
use Rattle.std.proofs.lemmas.Bool.{eqb-true, eq-eqb}
use Rattle.std.proofs.lemmas.List.{nil_from_length}
use Rattle.fw_flow.specs.declared.event.Message.{Message}
use Rattle.fw_model.specs.SortedMessages.{sorted_messages}
use Rattle.fw_edge.proofs.HeadLaws.{apart-none, none-first, apart-in_order}
use Rattle.fw_edge.proofs.bag.MessageBag.is_empty.Goals as goal

pub returns-clause-empty : goal.returns-clause-empty
returns-clause-empty c =
    let at = c.self.inside.at in
    let head = c.self.inside.head in
    let rest = c.self.inside.rest.entries in (
      λ h. sym c.self.view_is ∙ apart-none at head rest c.self.invariant (nil_from_length head (sym c.len.ensures.len ∙ eqb-true c.len.result 0 h)),
      λ h. eq-eqb c.len.result 0 (c.len.ensures.len ∙ ap length (none-first head rest (c.self.view_is ∙ h))),
    )

pub returns-clause-ascending : goal.returns-clause-ascending
returns-clause-ascending c =
    subst (λ (xs : List Message). sorted_messages xs ≡ xs) c.self.view_is (apart-in_order c.self.inside.at c.self.inside.head c.self.inside.rest.entries c.self.invariant)
