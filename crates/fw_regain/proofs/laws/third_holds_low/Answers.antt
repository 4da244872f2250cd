use Rattle.fw_regain.proofs.ThirdLaws.{third-holds}
use Rattle.fw_regain.proofs.laws.third_holds_low.Goals as goal

pub returns : goal.returns
returns c = third-holds
