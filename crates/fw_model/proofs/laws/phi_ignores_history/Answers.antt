use Rattle.fw_model.proofs.FrontierLaws.{phi-ignores_history}
use Rattle.fw_model.proofs.laws.phi_ignores_history.Goals as goal

pub returns : goal.returns
returns c = phi-ignores_history
