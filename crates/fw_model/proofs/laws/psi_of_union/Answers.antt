use Rattle.fw_model.proofs.PsiLaws.{psi-union}
use Rattle.fw_model.proofs.laws.psi_of_union.Goals as goal

pub returns : goal.returns
returns c = psi-union
