use Rattle.fw_split.proofs.ExpansionLaws.{nodes-hear}
use Rattle.fw_split.proofs.laws.nodes_hear_the_same.Goals as goal

pub returns : goal.returns
returns c = nodes-hear
