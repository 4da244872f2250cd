use Rattle.fw_model.proofs.PoorerTrailLaws.{certifies-same}
use Rattle.fw_model.proofs.laws.poorer_covers_certify_the_same.Goals as goal

pub returns : goal.returns
returns c = certifies-same
