use Rattle.std.proofs.Common.{◌≡◌, OnOk, ap, subst}
use Rattle.fw_flow.specs.Declaring.{Declaration, Declared}
use Rattle.fw_flow.proofs.ExpandLaws.{node_made, on_line}
use Rattle.fw_flow.proofs.expand.SplitNode.add.Goals as goal

pub returns : goal.returns
returns c =
    let self = c.args.self.now in
    subst (λ ds. OnOk c.add_edges.result (c.add_edges.new.all.items ≡ ds))
    (node_made c.args.line self.name.now self.kind.now self.policy self.split self.count _ _ _ _ c.in_ok-add_replicas.ensures c.in_ok-push.ensures.items
    (ap (λ (x : Declaration). on_line c.args.line x) c.in_ok-declaration.ensures))
    c.add_edges.ensures
