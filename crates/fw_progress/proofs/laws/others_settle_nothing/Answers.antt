use Rattle.fw_progress.proofs.SettleLaws.{others-settle_nothing}
use Rattle.fw_progress.proofs.laws.others_settle_nothing.Goals as goal

pub returns : goal.returns
returns c = others-settle_nothing
