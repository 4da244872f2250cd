use Rattle.fw_frontier.proofs.NamesLaws.{names-nothing}
use Rattle.fw_frontier.proofs.front.Front.empty.Goals as goal

pub returns : goal.returns
returns c = rw c.in_ok-outside.ensures (names-nothing c.args.bounds.now)
