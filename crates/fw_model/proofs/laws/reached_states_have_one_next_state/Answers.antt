use Rattle.fw_model.proofs.ChoosingLaws.{reached-one_next}
use Rattle.fw_model.proofs.laws.reached_states_have_one_next_state.Goals as goal

pub returns : goal.returns
returns c = reached-one_next
