use Rattle.std.proofs.Common.{◌≤◌, take}
use Rattle.std.specs.List.{AllByRecursion}
use Rattle.fw_model.specs.Inclusions.{node_of}
use Rattle.fw_monitor.proofs.worklist.first_node.Given as goal

abbrev pub invariant-loop-inclusion : goal.invariant-loop-inclusion
invariant-loop-inclusion l = (l.first ≤ l.fn.node) × AllByRecursion (λ i. l.first ≤ node_of l.flow i) (take l.inclusion-index l.inclusions)
