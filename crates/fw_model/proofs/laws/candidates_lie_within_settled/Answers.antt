use Rattle.fw_model.proofs.CheckpointLaws.{candidates-within_settled}
use Rattle.fw_model.proofs.laws.candidates_lie_within_settled.Goals as goal

pub returns : goal.returns
returns c = candidates-within_settled
