use Rattle.fw_frontier.proofs.InsideLaws.{inside-excluding}
use Rattle.fw_frontier.proofs.LeastLaws.{cut-least}
use Rattle.fw_frontier.proofs.NamesLaws.{names-excluding}
use Rattle.fw_frontier.proofs.front.Front.cut_above.Goals as goal

pub returns-clause-names : goal.returns-clause-names
returns-clause-names c = λ b h k.
    rw (c.in_ok-outside.ensures, c.self.view_is) (names-excluding b c.args.t.now c.args.self.now k h)

pub returns-clause-inside : goal.returns-clause-inside
returns-clause-inside c = λ u.
    rw (c.in_ok-outside.ensures, c.self.view_is) (inside-excluding c.args.t.now c.args.self.now u)

pub returns-clause-list : goal.returns-clause-list
returns-clause-list c = λ h.
    rw (c.in_ok-outside.ensures, c.self.view_is) (cut-least c.args.t.now c.args.self.now h)
