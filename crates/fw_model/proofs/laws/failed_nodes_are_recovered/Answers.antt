use Rattle.fw_model.proofs.ChoosingLaws.{failed-recovered}
use Rattle.fw_model.proofs.laws.failed_nodes_are_recovered.Goals as goal

pub returns : goal.returns
returns c = failed-recovered
