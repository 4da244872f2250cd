use Rattle.fw_model.proofs.MeetLaws.{phi-everything}
use Rattle.fw_model.proofs.laws.phi_of_everything.Goals as goal

pub returns : goal.returns
returns c = phi-everything
