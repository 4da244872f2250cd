use Rattle.fw_model.proofs.RecoveryLaws.{runs-legal}
use Rattle.fw_model.proofs.laws.runs_stay_legal_through_recoveries.Goals as goal

pub returns : goal.returns
returns c = runs-legal
