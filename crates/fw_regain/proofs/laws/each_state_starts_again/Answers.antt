use Rattle.fw_regain.proofs.DownLaws.{starts-again}
use Rattle.fw_regain.proofs.laws.each_state_starts_again.Goals as goal

pub returns : goal.returns
returns c = starts-again
