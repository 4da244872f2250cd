use Rattle.fw_model.proofs.ClosedLaws.{closed-stays}
use Rattle.fw_model.proofs.laws.closed_stamps_stay_closed.Goals as goal

pub returns : goal.returns
returns c = closed-stays
