use Rattle.fw_model.proofs.DescentLaws.{complete-one}
use Rattle.fw_model.proofs.laws.complete_is_the_only_one.Goals as goal

pub returns : goal.returns
returns c = complete-one
