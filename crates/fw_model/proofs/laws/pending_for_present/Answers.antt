use Rattle.fw_model.proofs.PendingKeptLaws.{pending-present}
use Rattle.fw_model.proofs.laws.pending_for_present.Goals as goal

pub returns : goal.returns
returns c = pending-present
