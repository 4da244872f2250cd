use Rattle.fw_frontier.proofs.InsideLaws.{inside-excluding_all}
use Rattle.fw_frontier.proofs.LeastLaws.{meet-least}
use Rattle.fw_frontier.proofs.NamesLaws.{names-meet}
use Rattle.fw_frontier.proofs.front.Front.meet.Goals as goal

pub returns-clause-names : goal.returns-clause-names
returns-clause-names c = λ b h k.
    rw (c.in_ok-outside.ensures, c.self.view_is, c.outside.ensures) (names-meet b c.args.self.now c.args.other.now h k)

pub returns-clause-inside : goal.returns-clause-inside
returns-clause-inside c = λ t.
    rw (c.in_ok-outside.ensures, c.self.view_is, c.outside.ensures) (inside-excluding_all c.args.other.now c.args.self.now t)

pub returns-clause-list : goal.returns-clause-list
returns-clause-list c = λ h.
    rw (c.in_ok-outside.ensures, c.self.view_is, c.outside.ensures) (meet-least c.args.other.now c.args.self.now h)
