use Rattle.std.proofs.Common.{◌<◌, ◌-◌, ◌^◌, subst}
use Rattle.fw_bag.specs.Keyed.{sorted_recs}
use Rattle.fw_running.specs.Fed.{can_feed}
use Rattle.fw_engine.specs.Engine.{running_of}
use Rattle.fw_session.proofs.SessionLaws.{fed-by, feeds-there, not-fed}
use Rattle.fw_session.proofs.session.feed_engine.Goals as goal

pub returns-then-not-branch-clause-full : goal.returns-then-not-branch-clause-full
returns-then-not-branch-clause-full c = λ records story at.
    let epoch = c.in_ok-epoch.ensures in
    let can = feeds-there c.args.engine.now records c.args.arrivals.now story c.args.source at epoch.open
    (subst (λ n. n < 2 ^ 20 - 1) epoch.epoch epoch.room) in
    absurd (not-fed c.in_ok-feed.field-0 (can_feed (running_of c.args.engine.now) c.args.source) c.if-not-branch.true c.in_ok-feed.ensures.told can)

pub returns-clause-fed : goal.returns-clause-fed
returns-clause-fed c = λ records story at.
    let epoch = c.in_ok-epoch.ensures in
    let feed = c.in_ok-feed.ensures in
    fed-by c.args.engine.now c.feed.new.self records c.args.arrivals.now c.count.new.self story c.args.source (sorted_recs c.args.recs.now) at
    (feed.fed c.if-not-branch.false) epoch.open (subst (λ n. n < 2 ^ 20 - 1) epoch.epoch epoch.room) feed.batch
    c.count.ensures.opened c.count.ensures.came
