use Rattle.fw_model.proofs.BothLaws.{pending-follows}
use Rattle.fw_model.proofs.laws.pending_follows_events.Goals as goal

pub returns : goal.returns
returns c = pending-follows
