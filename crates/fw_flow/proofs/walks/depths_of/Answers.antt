use Rattle.std.proofs.Common.{map, ap, ◌∙◌, arith}
use Rattle.std.proofs.lemmas.List.{take_all}
use Rattle.fw_flow.specs.declared.node.Node.{Node}
use Rattle.fw_flow.specs.Depths.{depth_of_kind}
use Rattle.fw_flow.proofs.walks.depths_of.Goals as goal

pub returns-clause-depths : goal.returns-clause-depths
returns-clause-depths c = λ flow made.
    c.loop-node.invariant.depths flow made
    ∙ ap (map (λ (node : Node). depth_of_kind flow node.kind)) (take_all c.loop-node.node-index c.args.nodes.now (omega arith))
