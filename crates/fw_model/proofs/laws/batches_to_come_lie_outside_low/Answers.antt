use Rattle.fw_model.proofs.RestoringLaws.{batches-outside}
use Rattle.fw_model.proofs.laws.batches_to_come_lie_outside_low.Goals as goal

pub returns : goal.returns
returns c = batches-outside
