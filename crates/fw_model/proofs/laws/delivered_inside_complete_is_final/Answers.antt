use Rattle.fw_model.proofs.ClosedLaws.{delivered-is_final}
use Rattle.fw_model.proofs.laws.delivered_inside_complete_is_final.Goals as goal

pub returns : goal.returns
returns c = delivered-is_final
