use Rattle.fw_model.proofs.SendingLaws.{psi-by_stamp}
use Rattle.fw_model.proofs.laws.psi_by_send_stamps.Goals as goal

pub returns : goal.returns
returns c = psi-by_stamp
