use Rattle.fw_model.proofs.LocalityLaws.{phi-same}
use Rattle.fw_model.proofs.laws.phi_of_kept_events.Goals as goal

pub returns : goal.returns
returns c = phi-same
