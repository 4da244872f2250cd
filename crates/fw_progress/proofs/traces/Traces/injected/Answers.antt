use Rattle.std.proofs.Common.{false, refl, subst}
use Rattle.fw_flow.specs.declared.event.Event.TheVariants.{Inject}
use Rattle.fw_progress.specs.declared.traces.Traces.{Traces}
use Rattle.fw_progress.specs.Trace.{HasSent}
use Rattle.fw_progress.proofs.FollowTraceLaws.{tells-follow, injected-tells}
use Rattle.fw_progress.proofs.traces.Traces.injected.Goals as goal

pub returns-clause-follows : goal.returns-clause-follows
returns-clause-follows c =
    let flow = c.args.flow.now in
    let sent = c.args.sent.now in
    let old = c.args.self.now in
    let new : Traces = record { delivered = old.delivered; notified = old.notified; sent = c.add_sent.new.lists; counted = c.count_sent.new.counted; refused = false } in
    let sends : HasSent flow c.args.node c.new-at.result sent old new = record { sent = c.in_ok-add_sent.ensures; counted = c.in_ok-count_sent.ensures } in
    tells-follow flow (Inject c.args.node c.args.epoch) sent old new
    (injected-tells flow c.args.node c.args.epoch sent old new refl refl (subst (λ s. HasSent flow c.args.node s sent old new) c.new-at.ensures sends))
