use Rattle.fw_model.proofs.ClosedLaws.{numbered-ascend}
use Rattle.fw_model.proofs.laws.numbered_deliveries_ascend.Goals as goal

pub returns : goal.returns
returns c = numbered-ascend
