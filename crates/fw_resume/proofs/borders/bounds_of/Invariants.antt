use Rattle.std.proofs.Common.{◌≡◌, map, take}
use Rattle.fw_border.specs.Outputs.{output_at}
use Rattle.fw_resume.proofs.borders.bounds_of.Given as goal

abbrev pub invariant-loop-node : goal.invariant-loop-node
invariant-loop-node l = l.numbers.items ≡ map (λ o. (output_at l.outputs.outputs o).bound) (take l.node-index l.nodes)
