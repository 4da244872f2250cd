use Rattle.fw_model.proofs.OrderLaws.{legal-inside_phi}
use Rattle.fw_model.proofs.laws.legal_inside_phi_comes_from_inside.Goals as goal

pub returns : goal.returns
returns c = legal-inside_phi
