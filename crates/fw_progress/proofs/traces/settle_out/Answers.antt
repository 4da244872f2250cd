use Rattle.std.proofs.Common.{subst, arith}
use Rattle.std.proofs.lemmas.List.{take_all}
use Rattle.fw_progress.specs.Traces.{IsThinnedBy}
use Rattle.fw_progress.proofs.EventLaws.{out_edge}
use Rattle.fw_progress.proofs.OutLaws.{AreChanging, changing-none, changing-more, changed-out}
use Rattle.fw_progress.proofs.traces.settle_out.Goals as goal

pub loop-edge-init : goal.loop-edge-init
loop-edge-init c = changing-none (λ e. IsThinnedBy c.args.base.now) c.args.lists.now.items

pub settle_on-requires : goal.settle_on-requires
settle_on-requires c =
    let there = out_edge c.args.flow.now c.args.node c.out_edges-edges.result.now c.loop-edge.edge-index c.edge-item.result c.out_edges-edges.ensures c.loop-edge-test.true c.edge-item.is in
    omega (arith, there, c.requires, c.loop-edge.invariant.one_each)

pub loop-edge-preserved : goal.loop-edge-preserved
loop-edge-preserved c =
    changing-more c.args.flow.now c.args.node (λ e. IsThinnedBy c.args.base.now) c.out_edges-edges.result.now c.loop-edge.edge-index c.edge-item.result c.args.lists.now.items
    c.loop-edge.lists.items c.settle_on.new.lists.items c.out_edges-edges.ensures c.loop-edge-test.true c.edge-item.is c.loop-edge.invariant c.in_ok-settle_on.ensures

pub returns : goal.returns
returns c =
    let edges = c.out_edges-edges.result.now in
    changed-out c.args.flow.now c.args.node (IsThinnedBy c.args.base.now) edges c.args.lists.now.items c.loop-edge.lists.items c.out_edges-edges.ensures
    (subst (λ es. AreChanging (λ e. IsThinnedBy c.args.base.now) es c.args.lists.now.items c.loop-edge.lists.items) (take_all c.loop-edge.edge-index edges c.loop-edge-test.false) c.loop-edge.invariant)
