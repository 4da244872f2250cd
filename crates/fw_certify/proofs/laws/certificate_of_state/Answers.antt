use Rattle.fw_certify.proofs.StateLaws.{certificate-of_state}
use Rattle.fw_certify.proofs.laws.certificate_of_state.Goals as goal

pub returns : goal.returns
returns c = certificate-of_state
