use Rattle.fw_model.proofs.PhiLaws.{phi-longer}
use Rattle.fw_model.proofs.laws.phi_grows_with_history.Goals as goal

pub returns : goal.returns
returns c = phi-longer
