use Rattle.std.proofs.Common.{◌≡◌, sym, subst}
use Rattle.std.specs.Prelude.{IsErrOf}
use Rattle.fw_bag.specs.Keyed.{sorted_recs}
use Rattle.fw_engine.specs.Engine.{flow_of}
use Rattle.fw_living.specs.Life.{came_in_story}
use Rattle.fw_living.specs.declared.fault.LifeFault.TheVariants.{NotFed}
use Rattle.fw_session.specs.Session.{came_in}
use Rattle.fw_session.specs.Story.{Story, after_feed}
use Rattle.fw_lasting.specs.UnderWay.{IsUnderWay}
use Rattle.fw_lasting.proofs.LivingLaws.{fed-one, not-fed_at, some-left}
use Rattle.fw_lasting.proofs.living.LastingSessionLiving.feed.Goals as goal

pub returns-clause-fed : goal.returns-clause-fed
returns-clause-fed g c = λ story at.
    let old = c.args.self.now in
    let new = c.feed.new.self in
    let s = c.args.source in
    let recs = sorted_recs c.args.recs.now in
    fed-one (came_in old.arrivals s) (came_in_story (flow_of old.engine.engine) story s)
    (λ kept now. IsUnderWay new.digests new.engine.engine new.arrivals (g.K.Store.view new.store).records new.turn kept now)
    (after_feed s recs at.0) (after_feed s recs story) c.feed.result (at.1.at.counts s) c.feed.ensures.epoch (c.feed.ensures.fed at.0 story at.1)

pub returns-clause-not_fed : goal.returns-clause-not_fed
returns-clause-not_fed g c = λ story at.
    let old = c.args.self.now in
    not-fed_at old.digests old.engine.engine old.arrivals (g.K.Store.view old.store).records old.turn at.0 story c.args.source
    (IsErrOf c.feed.result NotFed) c.feed.ensures.not_fed at.1

pub returns-clause-left : goal.returns-clause-left
returns-clause-left g c = λ story at told.
    let old = c.args.self.now in
    let new = c.feed.new.self in
    let s = c.args.source in
    let recs = sorted_recs c.args.recs.now in
    some-left c.feed.result (flow_of old.engine.engine) old.digests new.engine.engine new.digests new.arrivals (g.K.Store.view new.store).records new.turn
    (after_feed s recs at.0) (after_feed s recs story) at.0 (after_feed s recs at.0) c.feed.ensures.flow c.feed.ensures.digests (c.feed.ensures.fed at.0 story at.1)
    (c.feed.ensures.left at.0 story at.1)
