use Rattle.fw_model.proofs.GoingOn.{runs-go_on}
use Rattle.fw_model.proofs.laws.runs_go_on.Goals as goal

pub returns : goal.returns
returns c = runs-go_on
