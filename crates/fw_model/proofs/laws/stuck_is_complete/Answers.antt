use Rattle.fw_model.proofs.ProgressLaws.{stuck-complete}
use Rattle.fw_model.proofs.laws.stuck_is_complete.Goals as goal

pub returns : goal.returns
returns c = stuck-complete
