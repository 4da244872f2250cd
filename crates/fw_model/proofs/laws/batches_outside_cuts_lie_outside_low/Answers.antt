use Rattle.fw_model.proofs.RestoringLaws.{cut_batches-outside}
use Rattle.fw_model.proofs.laws.batches_outside_cuts_lie_outside_low.Goals as goal

pub returns : goal.returns
returns c = cut_batches-outside
