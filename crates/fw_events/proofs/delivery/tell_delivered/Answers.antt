use Rattle.fw_events.proofs.ShapedLaws.{shaped-told}
use Rattle.fw_events.proofs.TakenShapes.{owing-delivered}
use Rattle.fw_events.proofs.delivery.tell_delivered.Goals as goal

pub returns-clause-told : goal.returns-clause-told
returns-clause-told c = λ m at. record {
  progress = c.in_ok-delivered-2.ensures.follows m at;
  traces = c.in_ok-delivered.ensures.follows m at;
  settled = c.delivered-2.ensures.settled;
  kept = c.delivered-2.ensures.kept;
}

pub returns-clause-shaped : goal.returns-clause-shaped
returns-clause-shaped c =
    let old = c.args.running.now in
    let traces = c.delivered.new.self in
    let progress = c.delivered-2.new.self in
    let s = c.requires.shaped in
    shaped-told old traces progress s (c.delivered-2.ensures.progress c.in_ok-delivered-2.ensures.ready) (c.delivered.ensures.traces c.in_ok-delivered.ensures.ready)
    c.in_ok-delivered-2.ensures.ready c.in_ok-delivered.ensures.ready c.delivered-2.ensures.settled c.delivered-2.ensures.kept
    (owing-delivered old traces progress c.args.edge c.args.at.now c.args.sent.now s c.in_ok-delivered-2.ensures.counts c.requires.owing)
