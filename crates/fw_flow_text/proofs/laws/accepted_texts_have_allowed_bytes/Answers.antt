use Rattle.fw_flow_text.proofs.ByteLaws.{accepted_text_allowed}
use Rattle.fw_flow_text.proofs.laws.accepted_texts_have_allowed_bytes.Goals as goal

pub returns : goal.returns
returns c = accepted_text_allowed
