use Rattle.fw_split.proofs.ExpansionLaws.{denotation-expanded}
use Rattle.fw_split.proofs.laws.denotation_of_expansion.Goals as goal

pub returns : goal.returns
returns c = denotation-expanded
