use Rattle.std.proofs.Common.{ap}
use Rattle.fw_flow.specs.Declaring.{Declaration, Declared}
use Rattle.fw_flow.specs.Expand.{replica_edge}
use Rattle.fw_flow.proofs.ExpandLaws.{made_more, on_line}
use Rattle.fw_flow.proofs.expand.SplitNode.add_edges.Goals as goal

pub loop-place-preserved : goal.loop-place-preserved
loop-place-preserved c =
    made_more c.args.line (replica_edge c.args.self.now.name.now) _ _ _ _ _ c.loop-place.invariant c.in_ok-push.ensures.items
    (ap (λ (x : Declaration). on_line c.args.line x) c.in_ok-declaration.ensures)
