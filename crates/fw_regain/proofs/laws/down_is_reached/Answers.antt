use Rattle.fw_regain.proofs.DownLaws.{down-reached}
use Rattle.fw_regain.proofs.laws.down_is_reached.Goals as goal

pub returns : goal.returns
returns c = down-reached
