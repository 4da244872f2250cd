use Rattle.fw_model.proofs.AutoLaws.{auto-runs}
use Rattle.fw_model.proofs.laws.auto_runs_are_runs.Goals as goal

pub returns : goal.returns
returns c = auto-runs
