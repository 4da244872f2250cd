use Rattle.std.proofs.Common.{sym, ap, ◌∙◌}
use Rattle.std.specs.Prelude.{find}
use Rattle.std.specs.Option.{option_copied}
use Rattle.fw_flow.specs.declared.event.Message.{Message}
use Rattle.fw_model.specs.Steps.{is_asked}
use Rattle.fw_edge.proofs.HeadLaws.{apart-rest, find-apart, find-later}
use Rattle.fw_edge.proofs.bag.MessageBag.first.Goals as goal

pub first_at-requires : goal.first_at-requires
first_at-requires c = apart-rest c.self.inside.at c.self.inside.head c.self.inside.rest.entries c.self.invariant

pub returns-in-Some : goal.returns-in-Some
returns-in-Some c =
    let o = option_copied c.args.at in
    c.first_at.ensures
    ∙ sym (find-later o c.in-Some.at.now c.self.inside.at c.self.inside.head c.self.inside.rest.entries c.self.invariant c.in-Some.ensures.other.0 c.in-Some.ensures.other.1)
    ∙ ap (find (λ (m : Message). is_asked o m.at)) c.self.view_is

pub returns-in-None : goal.returns-in-None
returns-in-None c =
    let o = option_copied c.args.at in
    c.first.ensures ∙ sym (find-apart o c.self.inside.at c.self.inside.head c.self.inside.rest.entries c.self.invariant c.in-None.ensures.here)
    ∙ ap (find (λ (m : Message). is_asked o m.at)) c.self.view_is
