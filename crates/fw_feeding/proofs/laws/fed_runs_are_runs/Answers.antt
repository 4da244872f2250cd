use Rattle.fw_feeding.proofs.FedRunLaws.{fed-runs_are_runs}
use Rattle.fw_feeding.proofs.laws.fed_runs_are_runs.Goals as goal

pub returns : goal.returns
returns c = fed-runs_are_runs
