use Rattle.fw_regain.proofs.DownLaws.{go-down}
use Rattle.fw_regain.proofs.laws.all_go_down.Goals as goal

pub returns : goal.returns
returns c = go-down
