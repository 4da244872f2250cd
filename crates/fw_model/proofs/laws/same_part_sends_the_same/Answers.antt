use Rattle.fw_model.proofs.SendPartLaws.{parts-send}
use Rattle.fw_model.proofs.laws.same_part_sends_the_same.Goals as goal

pub returns : goal.returns
returns c = parts-send
