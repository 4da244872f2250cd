use Rattle.std.proofs.Common.{◌≡◌, true, take}
use Rattle.std.specs.List.{AllByRecursion}
use Rattle.fw_flow.specs.Dataflow.{node_frontier}
use Rattle.fw_record.proofs.of_node.are_counts_inside.Given as goal

abbrev pub invariant-loop-sent : goal.invariant-loop-sent
invariant-loop-sent l = AllByRecursion (λ s. node_frontier l.flow l.node l.front s.cause ≡ true) (take l.sent-index l.counts)
