use Rattle.fw_frontier.proofs.LeastLaws.{least-inside}
use Rattle.fw_frontier.proofs.laws.least_stamps_decide.Goals as goal

pub returns : goal.returns
returns c = least-inside
