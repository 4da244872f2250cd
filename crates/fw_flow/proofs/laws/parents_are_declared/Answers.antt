use Rattle.fw_flow.proofs.Chains.{parent-declared}
use Rattle.fw_flow.proofs.laws.parents_are_declared.Goals as goal

pub returns : goal.returns
returns c = λ flow l well lt. parent-declared flow l (well.chains l lt)
