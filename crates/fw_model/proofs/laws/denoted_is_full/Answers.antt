use Rattle.fw_model.proofs.RecoveryLaws.{denoted-full}
use Rattle.fw_model.proofs.laws.denoted_is_full.Goals as goal

pub returns : goal.returns
returns c = denoted-full
