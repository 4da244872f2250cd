use Rattle.fw_model.proofs.RestoringLaws.{never-collected}
use Rattle.fw_model.proofs.laws.events_that_must_be_kept_are_never_collected.Goals as goal

pub returns : goal.returns
returns c = never-collected
