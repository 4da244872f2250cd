use Rattle.fw_model.proofs.ClosedLaws.{closed-is_final}
use Rattle.fw_model.proofs.laws.delivered_up_to_closed_is_final.Goals as goal

pub returns : goal.returns
returns c = closed-is_final
