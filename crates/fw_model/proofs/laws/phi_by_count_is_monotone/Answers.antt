use Rattle.fw_model.proofs.PhiLaws.{phi_by_count-monotone}
use Rattle.fw_model.proofs.laws.phi_by_count_is_monotone.Goals as goal

pub returns : goal.returns
returns c = phi_by_count-monotone
