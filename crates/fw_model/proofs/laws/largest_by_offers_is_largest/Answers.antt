use Rattle.fw_model.proofs.OfferLaws.{largest-same}
use Rattle.fw_model.proofs.laws.largest_by_offers_is_largest.Goals as goal

pub returns : goal.returns
returns c = largest-same
