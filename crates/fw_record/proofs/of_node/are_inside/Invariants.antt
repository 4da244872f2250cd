use Rattle.std.proofs.Common.{◌≡◌, true, take}
use Rattle.std.specs.List.{AllByRecursion}
use Rattle.fw_flow.specs.Dataflow.{node_frontier}
use Rattle.fw_record.proofs.of_node.are_inside.Given as goal

abbrev pub invariant-loop-stamp : goal.invariant-loop-stamp
invariant-loop-stamp l = AllByRecursion (λ t. node_frontier l.flow l.node l.front t ≡ true) (take l.stamp-index l.stamps)
