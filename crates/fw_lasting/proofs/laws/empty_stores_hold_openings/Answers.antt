use Rattle.fw_lasting.proofs.StartingLaws.{empty-opening}
use Rattle.fw_lasting.proofs.laws.empty_stores_hold_openings.Goals as goal

pub returns : goal.returns
returns c = empty-opening
