use Rattle.fw_model.proofs.AutoLaws.{auto-one}
use Rattle.fw_model.proofs.laws.auto_runs_are_one.Goals as goal

pub returns : goal.returns
returns c = auto-one
