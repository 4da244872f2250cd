use Rattle.fw_model.proofs.FrontierLaws.{phi-frontier}
use Rattle.fw_model.proofs.laws.phi_is_frontier.Goals as goal

pub returns : goal.returns
returns c = phi-frontier
