use Rattle.fw_frontier.proofs.LeastLaws.{least-itself}
use Rattle.fw_frontier.proofs.laws.least_stamps_stay.Goals as goal

pub returns : goal.returns
returns c = least-itself
