use Rattle.std.proofs.Common.{◌≡◌, map, take}
use Rattle.fw_root.specs.declared.root.NodeFronts.{NodeFronts}
use Rattle.fw_resume.proofs.parts.lows_of.Given as goal

abbrev pub invariant-loop-of_node : goal.invariant-loop-of_node
invariant-loop-of_node l = l.low.items ≡ map (λ (f : NodeFronts). f.low) (take l.of_node-index l.fronts)
