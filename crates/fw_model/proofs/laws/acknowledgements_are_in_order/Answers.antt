use Rattle.fw_model.proofs.RunLaws.{acknowledgements-in_order}
use Rattle.fw_model.proofs.laws.acknowledgements_are_in_order.Goals as goal

pub returns : goal.returns
returns c = acknowledgements-in_order
