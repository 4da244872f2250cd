use Rattle.fw_model.proofs.PrefixLaws.{closed-is_denoted}
use Rattle.fw_model.proofs.laws.delivered_up_to_closed_is_denoted.Goals as goal

pub returns : goal.returns
returns c = closed-is_denoted
