use Rattle.fw_model.proofs.RestoringLaws.{checkpoints-true}
use Rattle.fw_model.proofs.laws.checkpoints_stay_true.Goals as goal

pub returns : goal.returns
returns c = checkpoints-true
