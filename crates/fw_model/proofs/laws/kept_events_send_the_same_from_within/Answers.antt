use Rattle.fw_model.proofs.LocalityLaws.{sends-same_within}
use Rattle.fw_model.proofs.laws.kept_events_send_the_same_from_within.Goals as goal

pub returns : goal.returns
returns c = sends-same_within
