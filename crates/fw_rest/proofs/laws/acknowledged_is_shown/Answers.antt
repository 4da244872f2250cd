use Rattle.fw_rest.proofs.FinishLaws.{acknowledged-shown}
use Rattle.fw_rest.proofs.laws.acknowledged_is_shown.Goals as goal

pub returns : goal.returns
returns c = acknowledged-shown
