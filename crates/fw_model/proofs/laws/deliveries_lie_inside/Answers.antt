use Rattle.fw_model.proofs.ToldLaws.{deliveries_lie-inside}
use Rattle.fw_model.proofs.laws.deliveries_lie_inside.Goals as goal

pub returns : goal.returns
returns c = deliveries_lie-inside
