use Rattle.std.proofs.Common.{subst, arith}
use Rattle.std.proofs.lemmas.List.{take_all}
use Rattle.fw_progress.specs.Traces.{IsThinnedBy}
use Rattle.fw_progress.proofs.IntoLaws.{IsChanging, changing_none, changing_more, all_changed, in_edge, thinned-twice}
use Rattle.fw_progress.proofs.traces.settle_into.Goals as goal

pub loop-edge-init : goal.loop-edge-init
loop-edge-init c = changing_none (IsThinnedBy c.args.base.now) c.args.lists.now.items

pub settle_on-requires : goal.settle_on-requires
settle_on-requires c =
    let there = in_edge c.args.flow.now c.args.node c.in_edges-edges.result.now c.loop-edge.edge-index c.edge-item.result c.in_edges-edges.ensures c.loop-edge-test.true c.edge-item.is in
    omega (arith, there, c.requires, c.loop-edge.invariant.one_each)

pub loop-edge-preserved : goal.loop-edge-preserved
loop-edge-preserved c =
    changing_more (IsThinnedBy c.args.base.now) (thinned-twice c.args.base.now) c.in_edges-edges.result.now c.loop-edge.edge-index c.edge-item.result c.args.lists.now.items c.loop-edge.lists.items
    c.settle_on.new.lists.items c.loop-edge-test.true c.edge-item.is c.loop-edge.invariant c.in_ok-settle_on.ensures

pub returns : goal.returns
returns c =
    let edges = c.in_edges-edges.result.now in
    all_changed c.args.flow.now c.args.node (IsThinnedBy c.args.base.now) edges c.args.lists.now.items c.loop-edge.lists.items c.in_edges-edges.ensures
    (subst (λ es. IsChanging (IsThinnedBy c.args.base.now) es c.args.lists.now.items c.loop-edge.lists.items) (take_all c.loop-edge.edge-index edges c.loop-edge-test.false) c.loop-edge.invariant)
