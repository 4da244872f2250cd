use Rattle.fw_model.proofs.DescentLaws.{complete-exists}
use Rattle.fw_model.proofs.laws.complete_exists.Goals as goal

pub returns : goal.returns
returns c = complete-exists
