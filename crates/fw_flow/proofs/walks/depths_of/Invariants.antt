use Rattle.std.proofs.Common.{◌≡◌, length, map, take}
use Rattle.fw_flow.specs.declared.node.Node.{Node}
use Rattle.fw_flow.specs.Dataflow.{Dataflow}
use Rattle.fw_flow.specs.Depths.{depth_of_kind}
use Rattle.fw_flow.proofs.walks.depths_of.Given as goal

abbrev pub invariant-loop-node : goal.invariant-loop-node
invariant-loop-node l = record {
  len : length l.depths.items ≡ l.node-index;
  depths : (flow : Dataflow) → flow.loops ≡ l.loops → l.depths.items ≡ map (λ (node : Node). depth_of_kind flow node.kind) (take l.node-index l.nodes);
}
