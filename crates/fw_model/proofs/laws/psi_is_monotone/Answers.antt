use Rattle.fw_model.proofs.PsiLaws.{psi-monotone}
use Rattle.fw_model.proofs.laws.psi_is_monotone.Goals as goal

pub returns : goal.returns
returns c = psi-monotone
