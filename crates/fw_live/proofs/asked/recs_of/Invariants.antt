use Rattle.std.proofs.Common.{◌≡◌, ◌++◌}
use Rattle.fw_live.proofs.asked.recs_of.Given as goal

-- what was pushed so far, and what is left, are the recs of the bag
abbrev pub invariant-loop-rec : goal.invariant-loop-rec
invariant-loop-rec l = l.recs.items ++ l.rec-iterator ≡ l.bag.recs
