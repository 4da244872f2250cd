use Rattle.fw_flow.proofs.RankLaws.{ranks-exist}
use Rattle.fw_flow.proofs.laws.ranks_exist.Goals as goal

pub returns : goal.returns
returns c = ranks-exist
