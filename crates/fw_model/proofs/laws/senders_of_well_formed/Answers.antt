use Rattle.fw_model.proofs.WellFormedLaws.{senders_well_formed}
use Rattle.fw_model.proofs.laws.senders_of_well_formed.Goals as goal

pub returns : goal.returns
returns c = senders_well_formed
