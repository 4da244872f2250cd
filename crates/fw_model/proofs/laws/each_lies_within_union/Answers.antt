use Rattle.fw_model.proofs.ChoiceLaws.{within-union}
use Rattle.fw_model.proofs.laws.each_lies_within_union.Goals as goal

pub returns : goal.returns
returns c = within-union
