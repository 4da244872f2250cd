use Rattle.fw_rest.proofs.FinishLaws.{given-acknowledged}
use Rattle.fw_rest.proofs.laws.what_is_given_is_acknowledged.Goals as goal

pub returns : goal.returns
returns c = given-acknowledged
