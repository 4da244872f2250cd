use Rattle.fw_model.proofs.CollectedLaws.{collected-forgotten}
use Rattle.fw_model.proofs.laws.collected_is_what_lies_below.Goals as goal

pub returns : goal.returns
returns c = collected-forgotten
