use Rattle.std.proofs.Common.{take}
use Rattle.std.specs.List.{AllByRecursion}
use Rattle.fw_record.specs.OfNode.{CanBeLogged}
use Rattle.fw_record.proofs.of_node.can_log_each.Given as goal

abbrev pub invariant-loop-logged : goal.invariant-loop-logged
invariant-loop-logged l = AllByRecursion (CanBeLogged l.flow l.node l.front) (take l.logged-index l.log)
