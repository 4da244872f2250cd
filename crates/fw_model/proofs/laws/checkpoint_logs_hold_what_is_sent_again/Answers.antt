use Rattle.fw_model.proofs.RestoringLaws.{checkpoint_logs-hold}
use Rattle.fw_model.proofs.laws.checkpoint_logs_hold_what_is_sent_again.Goals as goal

pub returns : goal.returns
returns c = checkpoint_logs-hold
