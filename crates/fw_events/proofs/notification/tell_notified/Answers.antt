use Rattle.fw_events.proofs.ShapedLaws.{shaped-told}
use Rattle.fw_events.proofs.TakenShapes.{owing-notified}
use Rattle.fw_events.proofs.notification.tell_notified.Goals as goal

pub returns-clause-told : goal.returns-clause-told
returns-clause-told c = record {
  progress = c.in_ok-notified-2.ensures.follows;
  traces = c.in_ok-notified.ensures.follows;
  settled = c.notified-2.ensures.settled;
  kept = c.notified-2.ensures.kept;
}

pub returns-clause-shaped : goal.returns-clause-shaped
returns-clause-shaped c =
    let old = c.args.running.now in
    let traces = c.notified.new.self in
    let progress = c.notified-2.new.self in
    let s = c.requires.shaped in
    shaped-told old traces progress s (c.notified-2.ensures.progress c.in_ok-notified-2.ensures.ready) (c.notified.ensures.traces c.in_ok-notified.ensures.ready)
    c.in_ok-notified-2.ensures.ready c.in_ok-notified.ensures.ready c.notified-2.ensures.settled c.notified-2.ensures.kept
    (owing-notified old traces progress c.args.node c.args.at.now c.args.sent.now s c.in_ok-notified-2.ensures.counts)
