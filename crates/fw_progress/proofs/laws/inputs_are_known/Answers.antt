use Rattle.fw_progress.proofs.AmongLaws.{input-trace}
use Rattle.fw_progress.proofs.laws.inputs_are_known.Goals as goal

pub returns : goal.returns
returns c = input-trace
