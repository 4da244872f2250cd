use Rattle.fw_lasting.proofs.MoreLaws.{roots-stay_over_more}
use Rattle.fw_lasting.proofs.laws.roots_stay_over_more.Goals as goal

pub returns : goal.returns
returns c = roots-stay_over_more
