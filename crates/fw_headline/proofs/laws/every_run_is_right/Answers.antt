use Rattle.fw_headline.proofs.RightLaws.{runs-right}
use Rattle.fw_headline.proofs.laws.every_run_is_right.Goals as goal

pub returns : goal.returns
returns c = runs-right
