use Rattle.fw_model.proofs.OneNextLaws.{one_next}
use Rattle.fw_model.proofs.laws.one_next_state.Goals as goal

pub returns : goal.returns
returns c = one_next
