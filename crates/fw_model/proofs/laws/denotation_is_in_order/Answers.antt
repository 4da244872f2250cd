use Rattle.fw_model.proofs.DenotationLaws.{denotation-in_order}
use Rattle.fw_model.proofs.laws.denotation_is_in_order.Goals as goal

pub returns : goal.returns
returns c = denotation-in_order
