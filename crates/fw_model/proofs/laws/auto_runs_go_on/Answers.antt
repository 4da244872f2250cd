use Rattle.fw_model.proofs.AutoLaws.{auto-goes_on}
use Rattle.fw_model.proofs.laws.auto_runs_go_on.Goals as goal

pub returns : goal.returns
returns c = auto-goes_on
