use Rattle.fw_session.proofs.FedRunningLaws.{can-be-fed}
use Rattle.fw_session.proofs.laws.open_sources_can_be_fed.Goals as goal

pub returns : goal.returns
returns c = can-be-fed
