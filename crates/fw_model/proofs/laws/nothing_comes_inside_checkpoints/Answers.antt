use Rattle.fw_model.proofs.RestoringLaws.{nothing-inside}
use Rattle.fw_model.proofs.laws.nothing_comes_inside_checkpoints.Goals as goal

pub returns : goal.returns
returns c = nothing-inside
