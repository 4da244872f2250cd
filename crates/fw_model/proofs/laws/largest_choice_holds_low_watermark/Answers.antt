use Rattle.fw_model.proofs.ChoosingLaws.{largest-holds_low}
use Rattle.fw_model.proofs.laws.largest_choice_holds_low_watermark.Goals as goal

pub returns : goal.returns
returns c = largest-holds_low
