use Rattle.fw_model.proofs.RestoringLaws.{events-logged}
use Rattle.fw_model.proofs.laws.events_inside_cuts_are_logged.Goals as goal

pub returns : goal.returns
returns c = events-logged
