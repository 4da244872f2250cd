use Rattle.fw_model.proofs.PoorerLaws.{consistent-above}
use Rattle.fw_model.proofs.laws.consistent_is_by_offers_above.Goals as goal

pub returns : goal.returns
returns c = consistent-above
