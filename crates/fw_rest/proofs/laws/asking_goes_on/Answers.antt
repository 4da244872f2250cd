use Rattle.fw_rest.proofs.AskingLaws.{asking-goes_on}
use Rattle.fw_rest.proofs.laws.asking_goes_on.Goals as goal

pub returns : goal.returns
returns c = asking-goes_on
