use Rattle.fw_split.proofs.PartLaws.{parts-make}
use Rattle.fw_split.proofs.laws.parts_make_the_bag.Goals as goal

pub returns : goal.returns
returns c = parts-make
