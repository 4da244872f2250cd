use Rattle.std.proofs.Common.{◌≡◌, drop}
use Rattle.fw_bag.specs.Bag.{bag_sum}
use Rattle.fw_bag.specs.Keyed.{sorted_recs}
use Rattle.fw_lines.specs.Batches.{IsBatch}
use Rattle.fw_engine.proofs.feeding.bag_of.Given as goal

abbrev pub invariant-loop-rec : goal.invariant-loop-rec
invariant-loop-rec l = record {
  summed : bag_sum (drop l.rec-index l.recs) l.bag.recs ≡ sorted_recs l.recs;
  batch : IsBatch l.bag.recs;
}
