use Rattle.fw_lasting.proofs.KeepLaws.{roots-left}
use Rattle.fw_lasting.proofs.laws.roots_left_stay_kept.Goals as goal

pub returns : goal.returns
returns c = roots-left
