use Rattle.fw_model.proofs.PoorerTrailLaws.{lowers-same}
use Rattle.fw_model.proofs.laws.poorer_covers_lower_the_same.Goals as goal

pub returns : goal.returns
returns c = lowers-same
