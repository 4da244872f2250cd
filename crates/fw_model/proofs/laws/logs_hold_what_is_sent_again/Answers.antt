use Rattle.fw_model.proofs.RestoringLaws.{logs-hold}
use Rattle.fw_model.proofs.laws.logs_hold_what_is_sent_again.Goals as goal

pub returns : goal.returns
returns c = logs-hold
