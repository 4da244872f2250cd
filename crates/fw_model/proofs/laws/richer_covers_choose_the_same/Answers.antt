use Rattle.fw_model.proofs.PoorerLaws.{richer-same}
use Rattle.fw_model.proofs.laws.richer_covers_choose_the_same.Goals as goal

pub returns : goal.returns
returns c = richer-same
