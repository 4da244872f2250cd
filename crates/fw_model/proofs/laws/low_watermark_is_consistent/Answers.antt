use Rattle.fw_model.proofs.ChoosingLaws.{low-consistent}
use Rattle.fw_model.proofs.laws.low_watermark_is_consistent.Goals as goal

pub returns : goal.returns
returns c = low-consistent
