use Rattle.fw_model.proofs.PendingKeptLaws.{pending-without_log}
use Rattle.fw_model.proofs.laws.nothing_pending_without_log.Goals as goal

pub returns : goal.returns
returns c = pending-without_log
