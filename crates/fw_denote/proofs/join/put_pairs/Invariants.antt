use Rattle.std.proofs.Common.{◌≡◌, ◌++◌, drop}
use Rattle.fw_denote.specs.Pairs.{pair_recs}
use Rattle.fw_denote.proofs.join.put_pairs.Given as goal

abbrev pub invariant-loop-right : goal.invariant-loop-right
invariant-loop-right l = l.sent.items ++ pair_recs l.left (drop l.right-index l.others) ≡ l.initial.sent.items ++ pair_recs l.left l.others
