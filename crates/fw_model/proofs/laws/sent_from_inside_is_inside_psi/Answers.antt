use Rattle.fw_model.proofs.SendsLaws.{sent_from_inside-inside_psi}
use Rattle.fw_model.proofs.laws.sent_from_inside_is_inside_psi.Goals as goal

pub returns : goal.returns
returns c = sent_from_inside-inside_psi
