use Rattle.fw_progress.proofs.SettleLaws.{in_turn-settled}
use Rattle.fw_progress.proofs.laws.settled_in_turn_is_settled.Goals as goal

pub returns : goal.returns
returns c = in_turn-settled
