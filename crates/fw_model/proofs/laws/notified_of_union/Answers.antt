use Rattle.fw_model.proofs.ChoiceLaws.{notified-union}
use Rattle.fw_model.proofs.laws.notified_of_union.Goals as goal

pub returns : goal.returns
returns c = notified-union
