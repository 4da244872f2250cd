use Rattle.fw_model.proofs.PoorerTrailLaws.{trail-above}
use Rattle.fw_model.proofs.laws.trail_by_offers_above_is_trail.Goals as goal

pub returns : goal.returns
returns c = trail-above
