use Rattle.fw_headline.proofs.TrailLaws.{trail_of_state-largest}
use Rattle.fw_headline.proofs.laws.trail_of_state_ends_at_largest.Goals as goal

pub returns : goal.returns
returns c = trail_of_state-largest
