use Rattle.fw_model.proofs.PsiBackLaws.{psi_back-largest}
use Rattle.fw_model.proofs.laws.psi_back_is_largest.Goals as goal

pub returns : goal.returns
returns c = psi_back-largest
