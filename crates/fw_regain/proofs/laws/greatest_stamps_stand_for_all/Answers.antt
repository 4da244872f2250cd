use Rattle.fw_regain.proofs.GreatestLaws.{greatest-stand}
use Rattle.fw_regain.proofs.laws.greatest_stamps_stand_for_all.Goals as goal

pub returns : goal.returns
returns c = greatest-stand
