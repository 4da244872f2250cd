use Rattle.fw_run.proofs.HeldCallLaws.{later-may_begin}
use Rattle.fw_run.proofs.laws.later_call_may_begin.Goals as goal

pub returns : goal.returns
returns c = later-may_begin
