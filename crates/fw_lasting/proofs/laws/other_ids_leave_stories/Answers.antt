use Rattle.fw_lasting.proofs.KeepLaws.{others-leave}
use Rattle.fw_lasting.proofs.laws.other_ids_leave_stories.Goals as goal

pub returns : goal.returns
returns c = others-leave
