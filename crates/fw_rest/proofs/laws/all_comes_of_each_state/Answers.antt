use Rattle.fw_rest.proofs.FinishLaws.{all-comes}
use Rattle.fw_rest.proofs.laws.all_comes_of_each_state.Goals as goal

pub returns : goal.returns
returns c = all-comes
