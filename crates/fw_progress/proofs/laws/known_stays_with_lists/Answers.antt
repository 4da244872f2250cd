use Rattle.fw_progress.proofs.AmongLaws.{lists-among, lists-outside}
use Rattle.fw_progress.proofs.laws.known_stays_with_lists.Goals as goal

pub returns : goal.returns
returns c = λ flow p old new k. (lists-among flow p old new k, lists-outside flow p old new k)
