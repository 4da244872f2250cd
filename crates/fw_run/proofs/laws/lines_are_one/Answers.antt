use Rattle.fw_run.proofs.ReasonLaws.{lines-one}
use Rattle.fw_run.proofs.laws.lines_are_one.Goals as goal

pub returns : goal.returns
returns c = lines-one
