use Rattle.std.proofs.Common.{◌≡◌, true, take}
use Rattle.std.specs.List.{AllByRecursion}
use Rattle.fw_flow.specs.FullNames.{is_full_name}
use Rattle.fw_flow.specs.declared.node.Edge.{Edge}
use Rattle.fw_flow.proofs.laws.edges_have_names.Given as goal

abbrev pub invariant-loop-edge : goal.invariant-loop-edge
invariant-loop-edge l = AllByRecursion (λ (edge : Edge). is_full_name edge.name ≡ true) (take l.edge-index l.edges)
