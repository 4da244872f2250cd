use Rattle.std.proofs.Common.{◌≡◌}
use Rattle.fw_bag.specs.Bag.{bag_sum, expand, IsPositive, IsTally}
use Rattle.fw_bag.proofs.bag.sum_of.Given as goal

abbrev pub invariant-loop-rec : goal.invariant-loop-rec
invariant-loop-rec l = record {
  tally : IsTally l.sum.entries;
  rest_positive : IsPositive l.rec-iterator;
  summed : bag_sum (expand l.rec-iterator) (expand l.sum.entries) ≡ bag_sum (expand l.others.entries) (expand l.counts.entries);
}
