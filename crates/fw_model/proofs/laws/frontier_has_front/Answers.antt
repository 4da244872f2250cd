use Rattle.fw_model.proofs.FrontLaws.{has_front}
use Rattle.fw_model.proofs.laws.frontier_has_front.Goals as goal

pub returns : goal.returns
returns c = has_front
