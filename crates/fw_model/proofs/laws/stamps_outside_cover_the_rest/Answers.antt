use Rattle.fw_model.proofs.ThinnedLaws.{outside-covers}
use Rattle.fw_model.proofs.laws.stamps_outside_cover_the_rest.Goals as goal

pub returns : goal.returns
returns c = outside-covers
