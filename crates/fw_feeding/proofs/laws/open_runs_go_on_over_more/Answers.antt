use Rattle.fw_feeding.proofs.OpenRunLaws.{open-runs_go_on}
use Rattle.fw_feeding.proofs.laws.open_runs_go_on_over_more.Goals as goal

pub returns : goal.returns
returns c = open-runs_go_on
