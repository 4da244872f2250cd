use Rattle.std.proofs.Common.{sym, ap, arith}
use Rattle.std.proofs.lemmas.List.{get_or_past}
use Rattle.fw_flow.specs.declared.node.Node.{Node}
use Rattle.fw_flow.specs.Dataflow.{idle_node, node_at}
use Rattle.fw_live.proofs.text.name_of.Goals as goal

pub returns-else-place-nodes : goal.returns-else-place-nodes
unfolding node_at
returns-else-place-nodes c =
    ap (λ (n : Node). n.name) (sym (get_or_past c.args.flow.now.nodes c.args.node idle_node (omega (arith, c.if-place-nodes.false, c.nodes.ensures.count, c.place.ensures))))
