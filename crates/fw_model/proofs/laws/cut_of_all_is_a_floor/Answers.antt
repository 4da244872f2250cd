use Rattle.fw_model.proofs.FloorLaws.{cut-floor}
use Rattle.fw_model.proofs.laws.cut_of_all_is_a_floor.Goals as goal

pub returns : goal.returns
returns c = cut-floor
