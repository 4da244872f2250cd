use Rattle.fw_run.proofs.HeldCallLaws.{empty-no_start}
use Rattle.fw_run.proofs.laws.empty_holds_no_start.Goals as goal

pub returns : goal.returns
returns c = empty-no_start
