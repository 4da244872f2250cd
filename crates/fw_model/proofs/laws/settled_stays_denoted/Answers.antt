use Rattle.fw_model.proofs.RecoveryLaws.{settled-stays_denoted}
use Rattle.fw_model.proofs.laws.settled_stays_denoted.Goals as goal

pub returns : goal.returns
returns c = settled-stays_denoted
