use Rattle.fw_model.proofs.AscendingLaws.{checkpoints-ascend}
use Rattle.fw_model.proofs.laws.checkpoints_ascend.Goals as goal

pub returns : goal.returns
returns c = checkpoints-ascend
