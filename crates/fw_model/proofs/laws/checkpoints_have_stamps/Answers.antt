use Rattle.fw_model.proofs.CheckpointFrontLaws.{checkpoints-have_stamps}
use Rattle.fw_model.proofs.laws.checkpoints_have_stamps.Goals as goal

pub returns : goal.returns
returns c = checkpoints-have_stamps
