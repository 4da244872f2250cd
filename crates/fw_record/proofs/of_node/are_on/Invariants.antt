use Rattle.std.proofs.Common.{take}
use Rattle.std.specs.List.{AllByRecursion}
use Rattle.fw_record.specs.OfNode.{IsOnOneOf}
use Rattle.fw_record.proofs.of_node.are_on.Given as goal

abbrev pub invariant-loop-of_edge : goal.invariant-loop-of_edge
invariant-loop-of_edge l = AllByRecursion (IsOnOneOf l.flow l.edges) (take l.of_edge-index l.fronts)
