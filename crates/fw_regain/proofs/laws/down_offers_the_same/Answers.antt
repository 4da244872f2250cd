use Rattle.fw_regain.proofs.DownLaws.{down-offers}
use Rattle.fw_regain.proofs.laws.down_offers_the_same.Goals as goal

pub returns : goal.returns
returns c = down-offers
