use Rattle.fw_split.proofs.ExpansionLaws.{expansion-denotes}
use Rattle.fw_split.proofs.laws.expansion_denotes_the_same.Goals as goal

pub returns : goal.returns
returns c = expansion-denotes
