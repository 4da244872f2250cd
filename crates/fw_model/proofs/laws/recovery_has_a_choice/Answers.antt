use Rattle.fw_model.proofs.ChoosingLaws.{recovery-has_choice}
use Rattle.fw_model.proofs.laws.recovery_has_a_choice.Goals as goal

pub returns : goal.returns
returns c = recovery-has_choice
