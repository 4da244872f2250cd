use Rattle.std.proofs.Common.{filter, ap, ◌∙◌}
use Rattle.fw_frontier.specs.Front.{inside}
use Rattle.fw_flow.specs.declared.event.Message.{Message}
use Rattle.fw_flow.specs.Projection.{all_inside}
use Rattle.fw_edge.proofs.HeadLaws.{apart-rest, kept-apart}
use Rattle.fw_edge.proofs.bag.MessageBag.keep_causes.Goals as goal

pub keep_causes-requires-2 : goal.keep_causes-requires-2
keep_causes-requires-2 c = apart-rest c.self.inside.at c.self.inside.head c.self.inside.rest.entries c.self.invariant

pub advance-requires : goal.advance-requires
advance-requires c =
    let p = λ (m : Message). all_inside (inside c.args.f.now) m.causes in
    (kept-apart p c.self.inside.at c.self.inside.head c.keep_causes.new.self c.self.inside.rest.entries c.keep_causes-2.new.piles.entries c.self.invariant c.keep_causes.ensures
    c.keep_causes-2.ensures.piles c.keep_causes-2.ensures.kept).0

pub returns : goal.returns
returns c =
    let p = λ (m : Message). all_inside (inside c.args.f.now) m.causes in
    let kept = kept-apart p c.self.inside.at c.self.inside.head c.keep_causes.new.self c.self.inside.rest.entries c.keep_causes-2.new.piles.entries c.self.invariant c.keep_causes.ensures
    c.keep_causes-2.ensures.piles c.keep_causes-2.ensures.kept in
    c.advance.ensures.same ∙ kept.1 ∙ ap (filter p) c.self.view_is
