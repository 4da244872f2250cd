use Rattle.std.proofs.Common.{true, false, sym, ap, ◌∙◌}
use Rattle.fw_time.specs.Stamp.{same}
use Rattle.fw_flow.specs.declared.event.Message.{Message}
use Rattle.fw_flow.specs.Counting.{how_many}
use Rattle.fw_edge.proofs.HeadLaws.{apart-rest, count-apart, count-later, same-by}
use Rattle.fw_edge.proofs.bag.MessageBag.count_at.Goals as goal

pub returns-then-eq : goal.returns-then-eq
returns-then-eq c =
    let at = c.self.inside.at in
    c.len.ensures.len ∙ count-apart c.args.at.now at c.self.inside.head c.self.inside.rest.entries c.self.invariant (same-by c.args.at.now at true (sym c.eq.ensures ∙ c.if-eq.true))
    ∙ ap (how_many (λ (m : Message). same c.args.at.now m.at)) c.self.view_is

pub count_at-requires : goal.count_at-requires
count_at-requires c = apart-rest c.self.inside.at c.self.inside.head c.self.inside.rest.entries c.self.invariant

pub returns : goal.returns
returns c =
    let at = c.self.inside.at in
    c.count_at.ensures ∙ count-later c.args.at.now at c.self.inside.head c.self.inside.rest.entries c.self.invariant (same-by c.args.at.now at false (sym c.eq.ensures ∙ c.if-eq.false))
    ∙ ap (how_many (λ (m : Message). same c.args.at.now m.at)) c.self.view_is
