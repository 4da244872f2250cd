use Rattle.fw_model.proofs.ReplayLaws.{replayed-send}
use Rattle.fw_model.proofs.laws.replayed_events_send_the_same.Goals as goal

pub returns : goal.returns
returns c = replayed-send
