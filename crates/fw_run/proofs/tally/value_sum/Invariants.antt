use Rattle.std.proofs.Common.{◌≡◌}
use Rattle.fw_bag.specs.Keyed.{plus}
use Rattle.fw_run.specs.Tallies.{rec_sum}
use Rattle.fw_run.proofs.tally.value_sum.Given as goal

-- what was added so far and the sum of what is left is the whole sum
abbrev pub invariant-loop-rec : goal.invariant-loop-rec
invariant-loop-rec l = plus l.sum (rec_sum l.rec-iterator) ≡ rec_sum l.recs.recs
