use Rattle.fw_hold.proofs.ChainLaws.{starts-run_by}
use Rattle.fw_hold.proofs.laws.starts_are_one_run.Goals as goal

pub returns : goal.returns
returns c = starts-run_by
