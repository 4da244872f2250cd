use Rattle.fw_progress.proofs.CutTraceLaws.{same-trace}
use Rattle.fw_progress.proofs.laws.traces_are_of_the_node.Goals as goal

pub returns : goal.returns
returns c = same-trace
