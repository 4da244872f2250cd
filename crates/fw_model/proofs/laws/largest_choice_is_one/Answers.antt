use Rattle.fw_model.proofs.ChoiceLaws.{largest-one}
use Rattle.fw_model.proofs.laws.largest_choice_is_one.Goals as goal

pub returns : goal.returns
returns c = largest-one
