use Rattle.fw_live.proofs.LifeTextLaws.{lives_print}
use Rattle.fw_live.proofs.laws.lives_print_as_runs.Goals as goal

pub returns : goal.returns
returns c = lives_print
