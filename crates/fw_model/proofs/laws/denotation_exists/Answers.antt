use Rattle.fw_model.proofs.DenotationLaws.{denotation-exists}
use Rattle.fw_model.proofs.laws.denotation_exists.Goals as goal

pub returns : goal.returns
returns c = denotation-exists
