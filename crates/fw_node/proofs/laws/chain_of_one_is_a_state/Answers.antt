use Rattle.fw_node.proofs.ChainLaws.{chain_of_one_is_a_state}
use Rattle.fw_node.proofs.laws.chain_of_one_is_a_state.Goals as goal

pub returns : goal.returns
returns c = chain_of_one_is_a_state
