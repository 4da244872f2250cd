use Rattle.fw_rest.proofs.FinishLaws.{recovery-comes_to_rest}
use Rattle.fw_rest.proofs.laws.recovery_comes_to_rest.Goals as goal

pub returns : goal.returns
returns c = recovery-comes_to_rest
