use Rattle.fw_model.proofs.LocalityLaws.{sends-same}
use Rattle.fw_model.proofs.laws.kept_events_send_the_same.Goals as goal

pub returns : goal.returns
returns c = sends-same
