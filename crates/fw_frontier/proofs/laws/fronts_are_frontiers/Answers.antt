use Rattle.fw_frontier.proofs.NamesLaws.{frontier-closed}
use Rattle.fw_frontier.proofs.laws.fronts_are_frontiers.Goals as goal

pub returns : goal.returns
returns c = frontier-closed
