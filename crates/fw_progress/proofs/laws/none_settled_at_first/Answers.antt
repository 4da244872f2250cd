use Rattle.fw_progress.proofs.SettleLaws.{none_settled-first}
use Rattle.fw_progress.proofs.laws.none_settled_at_first.Goals as goal

pub returns : goal.returns
returns c = none_settled-first
