use Rattle.fw_regain.proofs.ThirdLaws.{third-offered}
use Rattle.fw_regain.proofs.laws.third_front_is_offered.Goals as goal

pub returns : goal.returns
returns c = third-offered
