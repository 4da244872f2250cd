use Rattle.fw_model.proofs.BothLaws.{sent-both}
use Rattle.fw_model.proofs.laws.sent_is_delivered_and_pending.Goals as goal

pub returns : goal.returns
returns c = sent-both
