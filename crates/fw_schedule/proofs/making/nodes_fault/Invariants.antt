use Rattle.std.proofs.Common.{◌≡◌, drop}
use Rattle.fw_schedule.specs.Making.{nodes_fault}
use Rattle.fw_schedule.proofs.making.nodes_fault.Given as goal

abbrev pub invariant-loop-node : goal.invariant-loop-node
invariant-loop-node l = nodes_fault l.flow (drop l.node-index l.nodes) ≡ nodes_fault l.flow l.nodes
