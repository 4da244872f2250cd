use Rattle.fw_progress.proofs.CutCountLaws.{owed-left}
use Rattle.fw_progress.proofs.laws.owed_stays_inside_cuts.Goals as goal

pub returns : goal.returns
returns c = owed-left
