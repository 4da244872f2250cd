use Rattle.fw_model.proofs.OfferLaws.{consistent-same}
use Rattle.fw_model.proofs.laws.consistent_by_offers_is_consistent.Goals as goal

pub returns : goal.returns
returns c = consistent-same
