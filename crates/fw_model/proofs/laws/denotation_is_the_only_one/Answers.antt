use Rattle.fw_model.proofs.DenotationLaws.{denotation-only}
use Rattle.fw_model.proofs.laws.denotation_is_the_only_one.Goals as goal

pub returns : goal.returns
returns c = denotation-only
