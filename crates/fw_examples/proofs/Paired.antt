-- Recs that meet across epochs.
use Rattle.std.proofs.Common.{refl}
use Rattle.fw_paired.proofs.PairLaws.{pairs_are_all}
use Rattle.fw_examples.specs.Paired.{PairsAreMade, came_on_two}

pub pairs_are_made : PairsAreMade
pairs_are_made = record {
  made = refl;
  all = refl;
  same = pairs_are_all came_on_two;
}
