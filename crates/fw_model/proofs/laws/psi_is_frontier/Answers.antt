use Rattle.fw_model.proofs.FrontierLaws.{psi-frontier}
use Rattle.fw_model.proofs.laws.psi_is_frontier.Goals as goal

pub returns : goal.returns
returns c = psi-frontier
