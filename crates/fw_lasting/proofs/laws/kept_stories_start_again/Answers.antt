use Rattle.fw_lasting.proofs.StartingLaws.{kept-again}
use Rattle.fw_lasting.proofs.laws.kept_stories_start_again.Goals as goal

pub returns : goal.returns
returns c = kept-again
