use Rattle.fw_regain.proofs.ThirdLaws.{nothing-collected}
use Rattle.fw_regain.proofs.laws.nothing_outside_low_is_collected.Goals as goal

pub returns : goal.returns
returns c = nothing-collected
