use Rattle.fw_model.proofs.PsiBackLaws.{psi_back-by_stamp}
use Rattle.fw_model.proofs.laws.psi_back_by_send_stamps.Goals as goal

pub returns : goal.returns
returns c = psi_back-by_stamp
