use Rattle.fw_model.proofs.LoggedLaws.{logged-in_order}
use Rattle.fw_model.proofs.laws.logged_events_are_in_order.Goals as goal

pub returns : goal.returns
returns c = logged-in_order
