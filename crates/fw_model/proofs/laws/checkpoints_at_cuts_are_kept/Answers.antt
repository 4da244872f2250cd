use Rattle.fw_model.proofs.RestoringLaws.{cuts-kept}
use Rattle.fw_model.proofs.laws.checkpoints_at_cuts_are_kept.Goals as goal

pub returns : goal.returns
returns c = cuts-kept
