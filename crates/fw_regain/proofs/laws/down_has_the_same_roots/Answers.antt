use Rattle.fw_regain.proofs.RootLaws.{down-same_roots}
use Rattle.fw_regain.proofs.laws.down_has_the_same_roots.Goals as goal

pub returns : goal.returns
returns c = down-same_roots
