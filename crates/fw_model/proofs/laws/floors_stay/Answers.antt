use Rattle.fw_model.proofs.FloorLaws.{floors-stay}
use Rattle.fw_model.proofs.laws.floors_stay.Goals as goal

pub returns : goal.returns
returns c = floors-stay
