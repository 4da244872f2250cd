use Rattle.std.proofs.Common.{◌≡◌, true}
use Rattle.fw_lemmas.proofs.Each.{each-taken}
use Rattle.fw_flow.specs.FullNames.{is_full_name}
use Rattle.fw_flow.specs.declared.node.Node.{Node}
use Rattle.fw_flow.proofs.laws.nodes_have_names.Goals as goal

pub loop-node-preserved : goal.loop-node-preserved
loop-node-preserved c =
    each-taken (λ (node : Node). is_full_name node.name ≡ true) c.args.nodes.now c.loop-node.node-index c.node-item.result c.loop-node-test.true c.node-item.is c.loop-node.invariant c.as_bytes.ensures.name
