use Rattle.fw_model.proofs.NumberedLaws.{denotation-numbered}
use Rattle.fw_model.proofs.laws.denotation_is_numbered.Goals as goal

pub returns : goal.returns
returns c = denotation-numbered
