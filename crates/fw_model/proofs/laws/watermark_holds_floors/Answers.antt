use Rattle.fw_model.proofs.FloorLaws.{watermark-holds}
use Rattle.fw_model.proofs.laws.watermark_holds_floors.Goals as goal

pub returns : goal.returns
returns c = watermark-holds
