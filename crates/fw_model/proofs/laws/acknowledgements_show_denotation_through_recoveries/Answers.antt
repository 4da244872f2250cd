use Rattle.fw_model.proofs.RecoveryLaws.{acknowledged-denoted}
use Rattle.fw_model.proofs.laws.acknowledgements_show_denotation_through_recoveries.Goals as goal

pub returns : goal.returns
returns c = acknowledged-denoted
