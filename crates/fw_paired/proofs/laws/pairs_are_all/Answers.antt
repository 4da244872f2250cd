use Rattle.fw_paired.proofs.PairLaws.{pairs_are_all}
use Rattle.fw_paired.proofs.laws.pairs_are_all.Goals as goal

pub returns : goal.returns
returns c = pairs_are_all
