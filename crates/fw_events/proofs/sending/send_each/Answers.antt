use Rattle.std.proofs.Common.{◌<◌, length, sym, ◌∙◌, arith}
use Rattle.std.proofs.lemmas.Bool.{eqb-true}
use Rattle.fw_events.specs.Outgoing.{outgoing_messages}
use Rattle.fw_events.proofs.SendLaws.{edge-read, out_edge-there, place-there, sent-none, sent-step}
use Rattle.fw_events.proofs.sending.send_each.Goals as goal

pub returns-then-is_empty-clause-sent : goal.returns-then-is_empty-clause-sent
returns-then-is_empty-clause-sent c =
    sent-none c.args.running.now c.args.node c.args.outgoing.now.cause.now c.args.outgoing.now.recs.now (eqb-true (length c.args.outgoing.now.recs.now) 0 (sym c.is_empty.ensures ∙ c.if-is_empty.true))

pub send_on-requires-clause-there : goal.send_on-requires-clause-there
send_on-requires-clause-there c =
    let mid = c.loop-place.running in
    let i = c.loop-place.place in
    let l : i < length c.out_edges-place-end.result.now = omega arith in
    out_edge-there mid.flow c.args.node i c.index-out_edges-place.result
    (place-there c.args.running.now mid c.args.node i c.out_edges-place-end.result.now c.loop-place.invariant.changes c.out_edges-place-end.ensures l)
    (edge-read mid.flow c.args.node i c.index-out_edges-place.result c.out_edges.result.now c.out_edges.ensures c.index-out_edges-place.is)

pub loop-place-preserved : goal.loop-place-preserved
loop-place-preserved c =
    let mid = c.loop-place.running in
    let i = c.loop-place.place in
    let l : i < length c.out_edges-place-end.result.now = omega arith in
    let old = c.args.running.now in
    let ms = outgoing_messages c.args.outgoing.now in
    sent-step old mid c.send_on.new.running c.args.node ms i c.index-out_edges-place.result c.requires.shaped
    c.requires.causes c.requires.can_be_sent c.loop-place.invariant
    (place-there c.args.running.now mid c.args.node i c.out_edges-place-end.result.now c.loop-place.invariant.changes c.out_edges-place-end.ensures l)
    (edge-read mid.flow c.args.node i c.index-out_edges-place.result c.out_edges.result.now c.out_edges.ensures c.index-out_edges-place.is)
    c.send_on.ensures.others c.in_ok-send_on.ensures.sent
