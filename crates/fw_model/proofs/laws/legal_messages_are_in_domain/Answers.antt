use Rattle.fw_model.proofs.LegalLaws.{legal_messages-in_domain}
use Rattle.fw_model.proofs.laws.legal_messages_are_in_domain.Goals as goal

pub returns : goal.returns
returns c = legal_messages-in_domain
