use Rattle.fw_model.proofs.CauseLaws.{sends-from_causes}
use Rattle.fw_model.proofs.laws.sends_come_from_causes.Goals as goal

pub returns : goal.returns
returns c = sends-from_causes
