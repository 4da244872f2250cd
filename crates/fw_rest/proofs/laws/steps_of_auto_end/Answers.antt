use Rattle.fw_rest.proofs.LoweringLaws.{steps_of_auto-end}
use Rattle.fw_rest.proofs.laws.steps_of_auto_end.Goals as goal

pub returns : goal.returns
returns c = steps_of_auto-end
