use Rattle.fw_model.proofs.OrderLaws.{sequences-in_order}
use Rattle.fw_model.proofs.laws.sequences_are_notified_in_order.Goals as goal

pub returns : goal.returns
returns c = sequences-in_order
