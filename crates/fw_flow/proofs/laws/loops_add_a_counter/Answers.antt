use Rattle.fw_flow.proofs.Chains.{greatest-unfold}
use Rattle.fw_flow.proofs.laws.loops_add_a_counter.Goals as goal

pub returns : goal.returns
returns c = greatest-unfold
