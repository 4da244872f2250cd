use Rattle.fw_events.proofs.ShapedLaws.{shaped-told}
use Rattle.fw_events.proofs.TakenShapes.{owing-injected}
use Rattle.fw_events.proofs.injection.tell_injected.Goals as goal

pub returns-clause-told : goal.returns-clause-told
returns-clause-told c = record {
  progress = c.in_ok-injected-2.ensures.follows c.args.epoch;
  traces = c.in_ok-injected.ensures.follows;
  settled = c.injected-2.ensures.settled;
  kept = c.injected-2.ensures.kept;
}

pub returns-clause-shaped : goal.returns-clause-shaped
returns-clause-shaped c =
    let old = c.args.running.now in
    let traces = c.injected.new.self in
    let progress = c.injected-2.new.self in
    let s = c.requires.shaped in
    shaped-told old traces progress s (c.injected-2.ensures.progress c.in_ok-injected-2.ensures.ready) (c.injected.ensures.traces c.in_ok-injected.ensures.ready)
    c.in_ok-injected-2.ensures.ready c.in_ok-injected.ensures.ready c.injected-2.ensures.settled c.injected-2.ensures.kept
    (owing-injected old traces progress c.args.source c.args.sent.now s c.in_ok-injected-2.ensures.counts)
