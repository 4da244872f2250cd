use Rattle.fw_rest.proofs.DueLaws.{acknowledged-due}
use Rattle.fw_rest.proofs.laws.acknowledged_is_due.Goals as goal

pub returns : goal.returns
returns c = acknowledged-due
