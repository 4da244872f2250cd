use Rattle.fw_model.proofs.NewestLaws.{newest-kept}
use Rattle.fw_model.proofs.laws.newest_checkpoint_is_kept.Goals as goal

pub returns : goal.returns
returns c = newest-kept
