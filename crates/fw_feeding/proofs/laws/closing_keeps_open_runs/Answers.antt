use Rattle.fw_feeding.proofs.OpenRunLaws.{open-runs_closed}
use Rattle.fw_feeding.proofs.laws.closing_keeps_open_runs.Goals as goal

pub returns : goal.returns
returns c = open-runs_closed
