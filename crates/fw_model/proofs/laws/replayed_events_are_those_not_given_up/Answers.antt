use Rattle.fw_model.proofs.ReplayLaws.{replayed-those}
use Rattle.fw_model.proofs.laws.replayed_events_are_those_not_given_up.Goals as goal

pub returns : goal.returns
returns c = replayed-those
