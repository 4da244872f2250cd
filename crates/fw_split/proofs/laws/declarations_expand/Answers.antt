use Rattle.fw_split.proofs.ExpandsLaws.{declarations-expand}
use Rattle.fw_split.proofs.laws.declarations_expand.Goals as goal

pub returns : goal.returns
returns c = declarations-expand
