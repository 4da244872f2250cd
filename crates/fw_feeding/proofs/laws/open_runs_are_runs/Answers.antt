use Rattle.fw_feeding.proofs.OpenRunLaws.{open-runs_are_runs}
use Rattle.fw_feeding.proofs.laws.open_runs_are_runs.Goals as goal

pub returns : goal.returns
returns c = open-runs_are_runs
