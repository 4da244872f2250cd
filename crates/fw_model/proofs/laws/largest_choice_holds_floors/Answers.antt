use Rattle.fw_model.proofs.FloorLaws.{holds-floors}
use Rattle.fw_model.proofs.laws.largest_choice_holds_floors.Goals as goal

pub returns : goal.returns
returns c = holds-floors
