use Rattle.fw_rest.proofs.LoweringLaws.{auto-comes_to_rest}
use Rattle.fw_rest.proofs.laws.auto_comes_to_rest.Goals as goal

pub returns : goal.returns
returns c = auto-comes_to_rest
