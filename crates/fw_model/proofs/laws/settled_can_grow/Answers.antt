use Rattle.fw_model.proofs.SettleLaws.{settled-grows}
use Rattle.fw_model.proofs.laws.settled_can_grow.Goals as goal

pub returns : goal.returns
returns c = settled-grows
