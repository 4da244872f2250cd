use Rattle.fw_model.proofs.LegalLaws.{legal_events-in_domain}
use Rattle.fw_model.proofs.laws.legal_events_are_in_domain.Goals as goal

pub returns : goal.returns
returns c = legal_events-in_domain
