use Rattle.fw_session.proofs.FedRunningLaws.{fed-batches_stand}
use Rattle.fw_session.proofs.laws.fed_batches_stand.Goals as goal

pub returns : goal.returns
returns c = fed-batches_stand
