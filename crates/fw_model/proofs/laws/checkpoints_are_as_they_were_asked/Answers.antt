use Rattle.fw_model.proofs.AskedStateLaws.{checkpoints-as_asked}
use Rattle.fw_model.proofs.laws.checkpoints_are_as_they_were_asked.Goals as goal

pub returns : goal.returns
returns c = checkpoints-as_asked
