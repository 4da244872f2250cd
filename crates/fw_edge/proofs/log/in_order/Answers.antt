use Rattle.fw_edge.proofs.LogLaws.{in_order-sorted}
use Rattle.fw_edge.proofs.log.in_order.Goals as goal

pub returns-then-not-ascend : goal.returns-then-not-ascend
returns-then-not-ascend c = in_order-sorted _ _ c.sort_unstable.ensures.permutation c.sort_unstable.ensures.sorted
