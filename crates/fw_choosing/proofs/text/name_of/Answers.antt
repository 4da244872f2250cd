use Rattle.std.proofs.Common.{sym, ap, arith}
use Rattle.std.proofs.lemmas.Bool.Decides.{nat_tests}
use Rattle.std.proofs.lemmas.List.{get_or_past}
use Rattle.fw_flow.specs.Dataflow.{node_at, idle_node}
use Rattle.fw_choosing.proofs.text.name_of.Goals as goal

pub returns-else-place-nodes : goal.returns-else-place-nodes
unfolding node_at
returns-else-place-nodes c =
    sym (ap (λ node. node.name) (get_or_past c.args.flow.now.nodes c.args.node idle_node (grind (arith, nat_tests))))
