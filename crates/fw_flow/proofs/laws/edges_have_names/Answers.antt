use Rattle.std.proofs.Common.{◌≡◌, true}
use Rattle.fw_lemmas.proofs.Each.{each-taken}
use Rattle.fw_flow.specs.FullNames.{is_full_name}
use Rattle.fw_flow.specs.declared.node.Edge.{Edge}
use Rattle.fw_flow.proofs.laws.edges_have_names.Goals as goal

pub loop-edge-preserved : goal.loop-edge-preserved
loop-edge-preserved c =
    each-taken (λ (edge : Edge). is_full_name edge.name ≡ true) c.args.edges.now c.loop-edge.edge-index c.edge-item.result c.loop-edge-test.true c.edge-item.is c.loop-edge.invariant c.as_bytes.ensures.name
