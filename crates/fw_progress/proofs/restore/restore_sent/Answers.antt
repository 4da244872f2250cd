use Rattle.std.proofs.Common.{subst, arith}
use Rattle.std.proofs.lemmas.List.{take_all}
use Rattle.fw_progress.proofs.EventLaws.{out_edge}
use Rattle.fw_progress.proofs.OutLaws.{AreChanging, changing-none, changing-more}
use Rattle.fw_progress.proofs.RestoreLaws.{are_causes, causes-on}
use Rattle.fw_progress.proofs.restore.restore_sent.Goals as goal

pub loop-edge-init : goal.loop-edge-init
loop-edge-init c = changing-none (are_causes c.args.messages.now) c.args.lists.now.items

pub restore_on-requires : goal.restore_on-requires
restore_on-requires c =
    let there = out_edge c.args.flow.now c.args.node c.out_edges-edges.result.now c.loop-edge.edge-index c.edge-item.result c.out_edges-edges.ensures c.loop-edge-test.true c.edge-item.is in
    omega (arith, there, c.requires, c.loop-edge.invariant.one_each)

pub loop-edge-preserved : goal.loop-edge-preserved
loop-edge-preserved c =
    changing-more c.args.flow.now c.args.node (are_causes c.args.messages.now) c.out_edges-edges.result.now c.loop-edge.edge-index c.edge-item.result c.args.lists.now.items
    c.loop-edge.lists.items c.restore_on.new.lists.items c.out_edges-edges.ensures c.loop-edge-test.true c.edge-item.is c.loop-edge.invariant c.in_ok-restore_on.ensures

pub returns : goal.returns
returns c =
    let edges = c.out_edges-edges.result.now in
    causes-on c.args.flow.now c.args.node c.args.messages.now edges c.args.lists.now.items c.loop-edge.lists.items c.out_edges-edges.ensures
    (subst (λ es. AreChanging (are_causes c.args.messages.now) es c.args.lists.now.items c.loop-edge.lists.items) (take_all c.loop-edge.edge-index edges c.loop-edge-test.false) c.loop-edge.invariant)
