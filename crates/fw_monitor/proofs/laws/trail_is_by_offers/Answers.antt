use Rattle.fw_monitor.proofs.TrailEndLaws.{trail-by_offers}
use Rattle.fw_monitor.proofs.laws.trail_is_by_offers.Goals as goal

pub returns : goal.returns
returns c = trail-by_offers
