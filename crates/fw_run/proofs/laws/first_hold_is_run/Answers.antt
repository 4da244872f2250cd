use Rattle.fw_run.proofs.UnbrokenLaws.{first_hold-run}
use Rattle.fw_run.proofs.laws.first_hold_is_run.Goals as goal

pub returns : goal.returns
returns c = first_hold-run
