use Rattle.fw_model.proofs.ToldLaws.{settled-told}
use Rattle.fw_model.proofs.laws.settled_is_told.Goals as goal

pub returns : goal.returns
returns c = settled-told
