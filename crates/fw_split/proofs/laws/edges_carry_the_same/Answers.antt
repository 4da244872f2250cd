use Rattle.fw_split.proofs.ExpansionLaws.{edges-carry}
use Rattle.fw_split.proofs.laws.edges_carry_the_same.Goals as goal

pub returns : goal.returns
returns c = edges-carry
