use Rattle.fw_model.proofs.ForgottenLaws.{forgotten-acknowledged}
use Rattle.fw_model.proofs.laws.what_is_forgotten_was_acknowledged.Goals as goal

pub returns : goal.returns
returns c = forgotten-acknowledged
