use Rattle.std.proofs.Common.{◌≡◌, ◌+◌, drop}
use Rattle.fw_record.specs.OfNode.{count_sum}
use Rattle.fw_record.proofs.of_node.have_sum_within.Given as goal

abbrev pub invariant-loop-sent : goal.invariant-loop-sent
invariant-loop-sent l = l.fn.sum + count_sum (drop l.sent-index l.counts) ≡ l.left + count_sum l.counts
