use Rattle.fw_model.proofs.ChainLaws.{stands-on_last}
use Rattle.fw_model.proofs.laws.each_stands_on_the_one_before.Goals as goal

pub returns : goal.returns
returns c = stands-on_last
