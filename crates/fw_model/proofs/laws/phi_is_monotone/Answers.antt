use Rattle.fw_model.proofs.PhiLaws.{phi-monotone}
use Rattle.fw_model.proofs.laws.phi_is_monotone.Goals as goal

pub returns : goal.returns
returns c = phi-monotone
