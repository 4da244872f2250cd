use Rattle.fw_model.proofs.PsiLaws.{psi-nothing}
use Rattle.fw_model.proofs.laws.psi_of_nothing.Goals as goal

pub returns : goal.returns
returns c = psi-nothing
