use Rattle.fw_model.proofs.KeptChainLaws.{kept-are_chain}
use Rattle.fw_model.proofs.laws.what_is_not_collected_is_a_chain.Goals as goal

pub returns : goal.returns
returns c = kept-are_chain
