use Rattle.fw_frontier.proofs.LeastLaws.{least-same}
use Rattle.fw_frontier.proofs.laws.least_stamps_are_one_list.Goals as goal

pub returns : goal.returns
returns c = least-same
