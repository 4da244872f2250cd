use Rattle.fw_model.proofs.SendingLaws.{send_stamp-monotone}
use Rattle.fw_model.proofs.laws.send_stamp_is_monotone.Goals as goal

pub returns : goal.returns
returns c = send_stamp-monotone
