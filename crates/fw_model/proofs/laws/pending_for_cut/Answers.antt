use Rattle.fw_model.proofs.PendingKeptLaws.{pending-cut}
use Rattle.fw_model.proofs.laws.pending_for_cut.Goals as goal

pub returns : goal.returns
returns c = pending-cut
