use Rattle.fw_model.proofs.ChoiceLaws.{discarded-union}
use Rattle.fw_model.proofs.laws.discarded_of_union.Goals as goal

pub returns : goal.returns
returns c = discarded-union
