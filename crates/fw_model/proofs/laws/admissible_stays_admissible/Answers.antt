use Rattle.fw_model.proofs.CompleteLaws.{admissible-stays}
use Rattle.fw_model.proofs.laws.admissible_stays_admissible.Goals as goal

pub returns : goal.returns
returns c = admissible-stays
