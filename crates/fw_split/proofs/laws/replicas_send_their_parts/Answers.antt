use Rattle.fw_split.proofs.ExpansionLaws.{replicas-send}
use Rattle.fw_split.proofs.laws.replicas_send_their_parts.Goals as goal

pub returns : goal.returns
returns c = replicas-send
