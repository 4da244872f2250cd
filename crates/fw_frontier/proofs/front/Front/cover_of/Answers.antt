use Rattle.fw_frontier.proofs.front.Front.cover_of.Goals as goal

pub returns : goal.returns
returns c = λ h. c.in_ok-outside.ensures h
