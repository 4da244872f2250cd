use Rattle.fw_model.proofs.FirstLaws.{first-next}
use Rattle.fw_model.proofs.laws.first_pending_is_next.Goals as goal

pub returns : goal.returns
returns c = first-next
