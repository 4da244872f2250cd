use Rattle.std.proofs.Common.{◌≡◌, List, ◌++◌, sym, subst, ap, ◌∙◌}
use Rattle.std.specs.Prelude.{find, IfSome}
use Rattle.std.specs.Option.{option_copied}
use Rattle.fw_flow.specs.declared.event.Message.{Message}
use Rattle.fw_flow.specs.Message.{messages_without}
use Rattle.fw_model.specs.Steps.{is_asked}
use Rattle.fw_edge.specs.Piles.{piled_messages}
use Rattle.fw_edge.proofs.HeadLaws.{apart-rest, find-apart, find-later, take-later}
use Rattle.fw_edge.proofs.bag.MessageBag.take.Goals as goal

pub take_at-requires : goal.take_at-requires
take_at-requires c = apart-rest c.self.inside.at c.self.inside.head c.self.inside.rest.entries c.self.invariant

pub invariant_of-self : goal.invariant_of-self
invariant_of-self c =
    (take-later c.in-Some.at.now c.self.inside.at c.self.inside.head c.self.inside.rest.entries c.take_at.new.piles.entries c.take_at.result c.self.invariant c.take_at.ensures.value
    c.take_at.ensures.piles c.take_at.ensures.taken c.take_at.ensures.unchanged).apart

pub returns-in-Some-clause-value : goal.returns-in-Some-clause-value
returns-in-Some-clause-value c =
    let o = option_copied c.args.at in
    c.take_at.ensures.value
    ∙ sym (find-later o c.in-Some.at.now c.self.inside.at c.self.inside.head c.self.inside.rest.entries c.self.invariant c.in-Some.ensures.other.0 c.in-Some.ensures.other.1)
    ∙ ap (find (λ (m : Message). is_asked o m.at)) c.self.view_is

pub returns-in-Some-clause-taken : goal.returns-in-Some-clause-taken
returns-in-Some-clause-taken c =
    subst (λ (ms : List Message). IfSome c.take_at.result (λ m. c.self.inside.head ++ piled_messages c.take_at.new.piles.entries ≡ messages_without m ms)) c.self.view_is
    (take-later c.in-Some.at.now c.self.inside.at c.self.inside.head c.self.inside.rest.entries c.take_at.new.piles.entries c.take_at.result c.self.invariant c.take_at.ensures.value
    c.take_at.ensures.piles c.take_at.ensures.taken c.take_at.ensures.unchanged).taken

pub returns-in-None-clause-value : goal.returns-in-None-clause-value
returns-in-None-clause-value c =
    let o = option_copied c.args.at in
    c.take_front.ensures.value ∙ sym (find-apart o c.self.inside.at c.self.inside.head c.self.inside.rest.entries c.self.invariant c.in-None.ensures.here)
    ∙ ap (find (λ (m : Message). is_asked o m.at)) c.self.view_is
