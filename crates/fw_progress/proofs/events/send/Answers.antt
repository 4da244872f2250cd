use Rattle.std.proofs.Common.{subst, arith}
use Rattle.std.proofs.lemmas.List.{take_all}
use Rattle.fw_progress.specs.Progress.{stamps_on}
use Rattle.fw_progress.proofs.EventLaws.{IsSending}
use Rattle.fw_progress.proofs.EventLaws.{sending_none, sending_more, all_sent, out_edge}
use Rattle.fw_progress.proofs.events.send.Goals as goal

pub loop-edge-init : goal.loop-edge-init
loop-edge-init c = sending_none (λ e. stamps_on c.args.flow.now e c.args.sent.now) c.args.pending.now.items

pub add_on_edge-requires : goal.add_on_edge-requires
add_on_edge-requires c =
    let there = out_edge c.args.flow.now c.args.node c.out_edges-edges.result.now c.loop-edge.edge-index c.edge-item.result c.out_edges-edges.ensures c.loop-edge-test.true c.edge-item.is in
    omega (arith, there, c.requires, c.loop-edge.invariant.one_each)

pub loop-edge-preserved : goal.loop-edge-preserved
loop-edge-preserved c =
    sending_more (λ e. stamps_on c.args.flow.now e c.args.sent.now) c.out_edges-edges.result.now c.loop-edge.edge-index c.edge-item.result c.args.pending.now.items c.loop-edge.pending.items c.add_on_edge.new.pending.items
    c.loop-edge-test.true c.edge-item.is c.loop-edge.invariant c.in_ok-add_on_edge.ensures

pub returns : goal.returns
returns c =
    let edges = c.out_edges-edges.result.now in
    all_sent c.args.flow.now c.args.node c.args.sent.now edges c.args.pending.now.items c.loop-edge.pending.items c.out_edges-edges.ensures
    (subst (λ es. IsSending (λ e. stamps_on c.args.flow.now e c.args.sent.now) es c.args.pending.now.items c.loop-edge.pending.items) (take_all c.loop-edge.edge-index edges c.loop-edge-test.false) c.loop-edge.invariant)
