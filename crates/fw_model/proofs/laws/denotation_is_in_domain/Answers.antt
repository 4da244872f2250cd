use Rattle.fw_model.proofs.DenotationDomainLaws.{denotation-in_domain}
use Rattle.fw_model.proofs.laws.denotation_is_in_domain.Goals as goal

pub returns : goal.returns
returns c = denotation-in_domain
