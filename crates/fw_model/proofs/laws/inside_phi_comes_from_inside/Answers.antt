use Rattle.fw_model.proofs.CauseLaws.{inside_phi-from_inside}
use Rattle.fw_model.proofs.laws.inside_phi_comes_from_inside.Goals as goal

pub returns : goal.returns
returns c = inside_phi-from_inside
