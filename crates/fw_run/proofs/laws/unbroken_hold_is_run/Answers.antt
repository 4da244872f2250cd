use Rattle.fw_run.proofs.UnbrokenLaws.{unbroken_is_run}
use Rattle.fw_run.proofs.laws.unbroken_hold_is_run.Goals as goal

pub returns : goal.returns
returns c = unbroken_is_run
