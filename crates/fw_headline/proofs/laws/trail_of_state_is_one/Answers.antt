use Rattle.fw_headline.proofs.OneTrailLaws.{trail_of_state-one}
use Rattle.fw_headline.proofs.laws.trail_of_state_is_one.Goals as goal

pub returns : goal.returns
returns c = trail_of_state-one
