use Rattle.std.proofs.Common.{false, [], refl, subst}
use Rattle.fw_flow.specs.declared.event.Event.TheVariants.{Notify}
use Rattle.fw_progress.specs.declared.traces.Traces.{Traces}
use Rattle.fw_progress.specs.Progress.{ChangesAt}
use Rattle.fw_progress.specs.Traces.{StandForOneMore}
use Rattle.fw_progress.proofs.FollowTraceLaws.{tells-follow, notified-tells}
use Rattle.fw_progress.proofs.traces.Traces.notified.Goals as goal

pub returns-clause-follows : goal.returns-clause-follows
returns-clause-follows c =
    let flow = c.args.flow.now in
    let at = c.args.at.now in
    let sent = c.args.sent.now in
    let old = c.args.self.now in
    let new : Traces = record { delivered = old.delivered; notified = c.add_at.new.lists; sent = c.add_sent.new.lists; counted = c.count_sent.new.counted; refused = false } in
    let told = subst (λ n. ChangesAt n [] (StandForOneMore at) old.notified.items new.notified.items) c.place.ensures c.in_ok-add_at.ensures.thinned in
    tells-follow flow (Notify c.args.node at) sent old new
    (notified-tells flow c.args.node at sent old new refl told (record { sent = c.in_ok-add_sent.ensures; counted = c.in_ok-count_sent.ensures }))
