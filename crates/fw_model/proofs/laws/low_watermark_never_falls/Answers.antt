use Rattle.fw_model.proofs.ChoosingLaws.{never-falls}
use Rattle.fw_model.proofs.laws.low_watermark_never_falls.Goals as goal

pub returns : goal.returns
returns c = never-falls
