use Rattle.fw_rest.proofs.LeftLaws.{rest-leaves_nothing}
use Rattle.fw_rest.proofs.laws.rest_leaves_nothing.Goals as goal

pub returns : goal.returns
returns c = rest-leaves_nothing
