use Rattle.fw_model.proofs.LargestLaws.{largest-exists}
use Rattle.fw_model.proofs.laws.largest_choice_exists.Goals as goal

pub returns : goal.returns
returns c = largest-exists
