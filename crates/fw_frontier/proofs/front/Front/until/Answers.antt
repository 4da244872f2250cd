use Rattle.fw_frontier.proofs.LeastLaws.{until-least}
use Rattle.fw_frontier.proofs.NamesLaws.{names-until}
use Rattle.fw_frontier.proofs.front.Front.until.Goals as goal

pub returns-clause-names : goal.returns-clause-names
returns-clause-names c = λ b h. rw c.in_ok-outside.ensures (names-until b c.args.stamps.now h)

pub returns-clause-list : goal.returns-clause-list
returns-clause-list c = rw c.in_ok-outside.ensures (until-least c.args.stamps.now)
