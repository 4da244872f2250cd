use Rattle.fw_model.proofs.ChoosingLaws.{checkpoints-chains}
use Rattle.fw_model.proofs.laws.checkpoints_are_chains.Goals as goal

pub returns : goal.returns
returns c = checkpoints-chains
