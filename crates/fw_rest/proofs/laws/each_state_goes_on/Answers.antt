use Rattle.fw_rest.proofs.FinishLaws.{each-goes_on}
use Rattle.fw_rest.proofs.laws.each_state_goes_on.Goals as goal

pub returns : goal.returns
returns c = each-goes_on
