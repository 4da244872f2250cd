use Rattle.fw_model.proofs.FloorLaws.{low-floor}
use Rattle.fw_model.proofs.laws.low_watermark_is_a_floor.Goals as goal

pub returns : goal.returns
returns c = low-floor
