use Rattle.fw_model.proofs.RunLaws.{runs-stay_legal}
use Rattle.fw_model.proofs.laws.runs_stay_legal.Goals as goal

pub returns : goal.returns
returns c = runs-stay_legal
