use Rattle.fw_regain.proofs.DownLaws.{down-chooses}
use Rattle.fw_regain.proofs.laws.down_chooses_the_watermark.Goals as goal

pub returns : goal.returns
returns c = down-chooses
