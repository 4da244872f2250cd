use Rattle.fw_model.proofs.ShallowLaws.{reached-shallow}
use Rattle.fw_model.proofs.laws.each_stands_on_few.Goals as goal

pub returns : goal.returns
returns c = reached-shallow
