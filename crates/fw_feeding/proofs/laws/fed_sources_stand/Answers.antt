use Rattle.fw_feeding.proofs.FedSourceLaws.{fed-sources_stand}
use Rattle.fw_feeding.proofs.laws.fed_sources_stand.Goals as goal

pub returns : goal.returns
returns c = fed-sources_stand
