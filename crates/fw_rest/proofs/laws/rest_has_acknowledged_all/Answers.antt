use Rattle.fw_rest.proofs.AckLaws.{rest-acknowledged}
use Rattle.fw_rest.proofs.laws.rest_has_acknowledged_all.Goals as goal

pub returns : goal.returns
returns c = rest-acknowledged
