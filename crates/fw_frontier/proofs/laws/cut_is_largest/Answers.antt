use Rattle.fw_frontier.proofs.NamesLaws.{without_above-largest}
use Rattle.fw_frontier.proofs.laws.cut_is_largest.Goals as goal

pub returns : goal.returns
returns c = without_above-largest
