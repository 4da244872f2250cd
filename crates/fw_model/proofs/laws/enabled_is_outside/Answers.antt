use Rattle.fw_model.proofs.CompleteLaws.{enabled-outside}
use Rattle.fw_model.proofs.laws.enabled_is_outside.Goals as goal

pub returns : goal.returns
returns c = enabled-outside
