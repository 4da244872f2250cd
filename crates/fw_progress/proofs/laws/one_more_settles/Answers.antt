use Rattle.fw_progress.proofs.SettleLaws.{one_more-settles}
use Rattle.fw_progress.proofs.laws.one_more_settles.Goals as goal

pub returns : goal.returns
returns c = one_more-settles
