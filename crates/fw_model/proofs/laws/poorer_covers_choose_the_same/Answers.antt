use Rattle.fw_model.proofs.PoorerLaws.{poorer-same}
use Rattle.fw_model.proofs.laws.poorer_covers_choose_the_same.Goals as goal

pub returns : goal.returns
returns c = poorer-same
