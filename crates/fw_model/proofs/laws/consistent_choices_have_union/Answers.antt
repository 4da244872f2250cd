use Rattle.fw_model.proofs.ChoiceLaws.{have-union}
use Rattle.fw_model.proofs.laws.consistent_choices_have_union.Goals as goal

pub returns : goal.returns
returns c = have-union
