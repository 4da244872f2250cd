use Rattle.fw_certify.proofs.FollowLaws.{certificate-yes}
use Rattle.fw_certify.proofs.laws.certificate_is_said_yes.Goals as goal

pub returns : goal.returns
returns c = certificate-yes
