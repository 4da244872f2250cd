use Rattle.fw_rest.proofs.AskingLaws.{asking-leaves_nothing}
use Rattle.fw_rest.proofs.laws.asking_leaves_nothing.Goals as goal

pub returns : goal.returns
returns c = asking-leaves_nothing
