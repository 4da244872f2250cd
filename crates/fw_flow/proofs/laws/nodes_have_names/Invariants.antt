use Rattle.std.proofs.Common.{◌≡◌, true, take}
use Rattle.std.specs.List.{AllByRecursion}
use Rattle.fw_flow.specs.FullNames.{is_full_name}
use Rattle.fw_flow.specs.declared.node.Node.{Node}
use Rattle.fw_flow.proofs.laws.nodes_have_names.Given as goal

abbrev pub invariant-loop-node : goal.invariant-loop-node
invariant-loop-node l = AllByRecursion (λ (node : Node). is_full_name node.name ≡ true) (take l.node-index l.nodes)
