use Rattle.fw_model.proofs.ThinnedLaws.{thinned-covers}
use Rattle.fw_model.proofs.laws.thinned_stamps_cover_the_same.Goals as goal

pub returns : goal.returns
returns c = thinned-covers
