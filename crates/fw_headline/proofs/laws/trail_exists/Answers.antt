use Rattle.fw_headline.proofs.TrailLaws.{has_trail}
use Rattle.fw_model.proofs.ChoosingLaws.{recovery-has_choice}
use Rattle.fw_headline.proofs.laws.trail_exists.Goals as goal

pub returns : goal.returns
returns c = λ sys w steps outcomes last r lost. has_trail sys last lost w.flow (recovery-has_choice sys w steps outcomes last r lost)
