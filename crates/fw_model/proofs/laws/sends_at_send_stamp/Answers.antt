use Rattle.fw_model.proofs.SendsLaws.{sends-each}
use Rattle.fw_model.proofs.laws.sends_at_send_stamp.Goals as goal

pub returns : goal.returns
returns c = sends-each
