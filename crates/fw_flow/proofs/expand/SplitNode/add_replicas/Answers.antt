use Rattle.std.proofs.Common.{ap}
use Rattle.fw_flow.specs.Declaring.{Declaration, Declared}
use Rattle.fw_flow.specs.Expand.{replica}
use Rattle.fw_flow.proofs.ExpandLaws.{made_more, on_line}
use Rattle.fw_flow.proofs.expand.SplitNode.add_replicas.Goals as goal

pub loop-place-preserved : goal.loop-place-preserved
loop-place-preserved c =
    let self = c.args.self.now in
    made_more c.args.line (replica self.name.now self.kind.now self.policy self.count) _ _ _ _ _ c.loop-place.invariant c.in_ok-push.ensures.items
    (ap (λ (x : Declaration). on_line c.args.line x) c.in_ok-declaration.ensures)
