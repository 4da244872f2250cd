use Rattle.fw_regain.proofs.DownLaws.{are-down}
use Rattle.fw_regain.proofs.laws.all_are_down.Goals as goal

pub returns : goal.returns
returns c = are-down
