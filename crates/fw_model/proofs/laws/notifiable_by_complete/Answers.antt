use Rattle.fw_model.proofs.ProgressLaws.{notifiable-by}
use Rattle.fw_model.proofs.laws.notifiable_by_complete.Goals as goal

pub returns : goal.returns
returns c = notifiable-by
