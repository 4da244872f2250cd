use Rattle.fw_model.proofs.PendingKeptLaws.{pending-at_kept}
use Rattle.fw_model.proofs.laws.pending_at_kept_stamps.Goals as goal

pub returns : goal.returns
returns c = pending-at_kept
