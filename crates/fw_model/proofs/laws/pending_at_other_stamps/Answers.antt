use Rattle.fw_model.proofs.PendingKeptLaws.{pending-at_others}
use Rattle.fw_model.proofs.laws.pending_at_other_stamps.Goals as goal

pub returns : goal.returns
returns c = pending-at_others
