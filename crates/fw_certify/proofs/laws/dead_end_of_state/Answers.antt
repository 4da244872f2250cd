use Rattle.fw_certify.proofs.StateLaws.{dead_end-of_state}
use Rattle.fw_certify.proofs.laws.dead_end_of_state.Goals as goal

pub returns : goal.returns
returns c = dead_end-of_state
