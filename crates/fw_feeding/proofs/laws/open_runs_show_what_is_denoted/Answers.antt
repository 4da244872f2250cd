use Rattle.fw_feeding.proofs.OpenRunLaws.{open-runs_denoted}
use Rattle.fw_feeding.proofs.laws.open_runs_show_what_is_denoted.Goals as goal

pub returns : goal.returns
returns c = open-runs_denoted
