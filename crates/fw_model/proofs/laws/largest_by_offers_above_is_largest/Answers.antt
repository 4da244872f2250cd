use Rattle.fw_model.proofs.PoorerLaws.{largest-above}
use Rattle.fw_model.proofs.laws.largest_by_offers_above_is_largest.Goals as goal

pub returns : goal.returns
returns c = largest-above
