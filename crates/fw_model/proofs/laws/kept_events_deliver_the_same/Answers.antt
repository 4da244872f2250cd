use Rattle.fw_model.proofs.LocalityLaws.{delivers-same}
use Rattle.fw_model.proofs.laws.kept_events_deliver_the_same.Goals as goal

pub returns : goal.returns
returns c = delivers-same
