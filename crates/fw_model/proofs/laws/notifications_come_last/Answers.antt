use Rattle.fw_model.proofs.ClosedLaws.{notifications-last}
use Rattle.fw_model.proofs.laws.notifications_come_last.Goals as goal

pub returns : goal.returns
returns c = notifications-last
