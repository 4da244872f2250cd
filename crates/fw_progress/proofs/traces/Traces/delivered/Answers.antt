use Rattle.std.proofs.Common.{false, [], refl, sym, subst}
use Rattle.fw_flow.specs.declared.event.Event.TheVariants.{Deliver}
use Rattle.fw_flow.specs.Dataflow.{receiver}
use Rattle.fw_progress.specs.declared.traces.Traces.{Traces}
use Rattle.fw_progress.specs.Progress.{ChangesAt}
use Rattle.fw_progress.specs.Trace.{HasSent}
use Rattle.fw_progress.specs.Traces.{StandForOneMore}
use Rattle.fw_progress.proofs.FollowTraceLaws.{tells-follow, delivered-tells}
use Rattle.fw_progress.proofs.traces.Traces.delivered.Goals as goal

pub returns-clause-follows : goal.returns-clause-follows
returns-clause-follows c = λ m e.
    let flow = c.args.flow.now in
    let at = c.args.at.now in
    let sent = c.args.sent.now in
    let old = c.args.self.now in
    let new : Traces = record { delivered = c.add_at.new.lists; notified = old.notified; sent = c.add_sent.new.lists; counted = c.count_sent.new.counted; refused = false } in
    let came = subst (λ n. ChangesAt n [] (StandForOneMore at) old.delivered.items new.delivered.items) c.place.ensures c.in_ok-add_at.ensures.thinned in
    let sends : HasSent flow c.dst-node.result at sent old new = record { sent = c.in_ok-add_sent.ensures; counted = c.in_ok-count_sent.ensures } in
    tells-follow flow (Deliver c.args.edge m) sent old new
    (delivered-tells flow c.args.edge m sent old new
    (subst (λ s. ChangesAt c.args.edge [] (StandForOneMore s) old.delivered.items new.delivered.items) (sym e) came) refl
    (subst (λ s. HasSent flow (receiver flow c.args.edge) s sent old new) (sym e)
    (subst (λ n. HasSent flow n at sent old new) c.dst-node.ensures sends)))
