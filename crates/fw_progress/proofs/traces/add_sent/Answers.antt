use Rattle.std.proofs.Common.{length, sym, ap, subst, ◌∙◌, arith}
use Rattle.std.proofs.lemmas.List.{take_all}
use Rattle.fw_flow.specs.Dataflow.{is_sequence_kind}
use Rattle.fw_progress.specs.Progress.{stamps_on}
use Rattle.fw_progress.specs.Trace.{StandForManyMore}
use Rattle.fw_progress.proofs.EventLaws.{out_edge}
use Rattle.fw_progress.proofs.FollowTraceLaws.{sent-none, sent-some}
use Rattle.fw_progress.proofs.OutLaws.{AreChanging, changing-none, changing-more, all-changed_out}
use Rattle.fw_progress.proofs.traces.add_sent.Goals as goal

pub returns-then-is_sequence : goal.returns-then-is_sequence
returns-then-is_sequence c = sent-none c.args.flow.now c.args.node c.args.at.now c.args.sent.now c.args.lists.now.items
    (sym (c.is_sequence.ensures ∙ ap is_sequence_kind c.kind.ensures) ∙ c.if-is_sequence.true)

pub loop-edge-init : goal.loop-edge-init
loop-edge-init c = changing-none (λ e. StandForManyMore c.args.at.now (length (stamps_on c.args.flow.now e c.args.sent.now))) c.args.lists.now.items

pub add_carried-requires : goal.add_carried-requires
add_carried-requires c =
    let there = out_edge c.args.flow.now c.args.node c.out_edges-edges.result.now c.loop-edge.edge-index c.edge-item.result c.out_edges-edges.ensures c.loop-edge-test.true c.edge-item.is in
    omega (arith, there, c.requires, c.loop-edge.invariant.one_each)

pub loop-edge-preserved : goal.loop-edge-preserved
loop-edge-preserved c =
    changing-more c.args.flow.now c.args.node (λ e. StandForManyMore c.args.at.now (length (stamps_on c.args.flow.now e c.args.sent.now))) c.out_edges-edges.result.now c.loop-edge.edge-index
    c.edge-item.result c.args.lists.now.items c.loop-edge.lists.items c.add_carried.new.lists.items c.out_edges-edges.ensures c.loop-edge-test.true c.edge-item.is c.loop-edge.invariant
    c.in_ok-add_carried.ensures

pub returns : goal.returns
returns c =
    let flow = c.args.flow.now in
    let edges = c.out_edges-edges.result.now in
    let old = c.args.lists.now.items in
    sent-some flow c.args.node c.args.at.now c.args.sent.now old c.loop-edge.lists.items
    (all-changed_out flow c.args.node (λ e. StandForManyMore c.args.at.now (length (stamps_on flow e c.args.sent.now))) edges old c.loop-edge.lists.items c.out_edges-edges.ensures
    (subst (λ es. AreChanging (λ e. StandForManyMore c.args.at.now (length (stamps_on flow e c.args.sent.now))) es old c.loop-edge.lists.items) (take_all c.loop-edge.edge-index edges c.loop-edge-test.false)
    c.loop-edge.invariant))
