use Rattle.fw_model.proofs.PoorerTrailLaws.{certificate-above}
use Rattle.fw_model.proofs.laws.certificate_by_offers_above_is_certificate.Goals as goal

pub returns : goal.returns
returns c = certificate-above
