use Rattle.fw_regain.proofs.ThirdLaws.{third-stays}
use Rattle.fw_regain.proofs.laws.third_stays_where_all_are_down.Goals as goal

pub returns : goal.returns
returns c = third-stays
