use Rattle.fw_model.proofs.SendsLaws.{sends-inside_psi}
use Rattle.fw_model.proofs.laws.sends_are_inside_psi.Goals as goal

pub returns : goal.returns
returns c = sends-inside_psi
