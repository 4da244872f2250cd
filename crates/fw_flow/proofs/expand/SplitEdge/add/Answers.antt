use Rattle.std.proofs.Common.{ap}
use Rattle.fw_flow.specs.Declaring.{Declaration, Declared}
use Rattle.fw_flow.specs.Expand.{edge_to_replica}
use Rattle.fw_flow.proofs.ExpandLaws.{made_more, on_line}
use Rattle.fw_flow.proofs.expand.SplitEdge.add.Goals as goal

pub loop-place-preserved : goal.loop-place-preserved
loop-place-preserved c =
    let self = c.args.self.now in
    made_more c.args.line (edge_to_replica self.name.now self.sender.now self.receiver.now) _ _ _ _ _ c.loop-place.invariant c.in_ok-push.ensures.items
    (ap (λ (x : Declaration). on_line c.args.line x) c.in_ok-declaration.ensures)
