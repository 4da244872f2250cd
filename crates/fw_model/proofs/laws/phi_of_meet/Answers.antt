use Rattle.fw_model.proofs.MeetLaws.{phi-meet}
use Rattle.fw_model.proofs.laws.phi_of_meet.Goals as goal

pub returns : goal.returns
returns c = phi-meet
