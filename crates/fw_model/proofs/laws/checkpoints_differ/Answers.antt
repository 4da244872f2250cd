use Rattle.fw_model.proofs.CheckpointFrontLaws.{checkpoints-differ}
use Rattle.fw_model.proofs.laws.checkpoints_differ.Goals as goal

pub returns : goal.returns
returns c = checkpoints-differ
