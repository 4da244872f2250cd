use Rattle.fw_model.proofs.ChoiceLaws.{delivered-union}
use Rattle.fw_model.proofs.laws.delivered_of_union.Goals as goal

pub returns : goal.returns
returns c = delivered-union
