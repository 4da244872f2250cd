use Rattle.fw_model.proofs.PsiLaws.{psi-join}
use Rattle.fw_model.proofs.laws.psi_of_join.Goals as goal

pub returns : goal.returns
returns c = psi-join
