use Rattle.fw_feeding.proofs.FedEngineLaws.{fed-engines_stand}
use Rattle.fw_feeding.proofs.laws.fed_engines_stand.Goals as goal

pub returns : goal.returns
returns c = fed-engines_stand
