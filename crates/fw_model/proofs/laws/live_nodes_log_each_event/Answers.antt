use Rattle.fw_model.proofs.LoggedLaws.{live-logged}
use Rattle.fw_model.proofs.laws.live_nodes_log_each_event.Goals as goal

pub returns : goal.returns
returns c = live-logged
