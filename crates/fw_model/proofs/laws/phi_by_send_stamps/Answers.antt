use Rattle.fw_model.proofs.SendingLaws.{phi-by_stamp}
use Rattle.fw_model.proofs.laws.phi_by_send_stamps.Goals as goal

pub returns : goal.returns
returns c = phi-by_stamp
