use Rattle.fw_lasting.proofs.AgainLaws.{stories_start_again}
use Rattle.fw_lasting.proofs.laws.stories_start_again.Goals as goal

pub returns : goal.returns
returns c = stories_start_again
