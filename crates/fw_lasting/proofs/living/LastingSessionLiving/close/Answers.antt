use Rattle.std.proofs.Common.{◌≡◌, sym, subst}
use Rattle.std.specs.Prelude.{IsErrOf}
use Rattle.fw_engine.specs.Engine.{flow_of}
use Rattle.fw_living.specs.Life.{came_in_story}
use Rattle.fw_living.specs.declared.fault.LifeFault.TheVariants.{NotFed}
use Rattle.fw_session.specs.Session.{came_in}
use Rattle.fw_session.specs.Story.{Story, after_close}
use Rattle.fw_lasting.specs.UnderWay.{IsUnderWay}
use Rattle.fw_lasting.proofs.LivingLaws.{fed-one, not-closed_at, some-left}
use Rattle.fw_lasting.proofs.living.LastingSessionLiving.close.Goals as goal

pub returns-clause-closed : goal.returns-clause-closed
returns-clause-closed g c = λ story at.
    let old = c.args.self.now in
    let new = c.close.new.self in
    let s = c.args.source in
    fed-one (came_in old.arrivals s) (came_in_story (flow_of old.engine.engine) story s)
    (λ kept now. IsUnderWay new.digests new.engine.engine new.arrivals (g.K.Store.view new.store).records new.turn kept now)
    (after_close s at.0) (after_close s story) c.close.result (at.1.at.counts s) c.close.ensures.epoch (c.close.ensures.closed at.0 story at.1)

pub returns-clause-not_fed : goal.returns-clause-not_fed
returns-clause-not_fed g c = λ story at.
    let old = c.args.self.now in
    not-closed_at old.digests old.engine.engine old.arrivals (g.K.Store.view old.store).records old.turn at.0 story c.args.source
    (IsErrOf c.close.result NotFed) c.close.ensures.not_fed at.1

pub returns-clause-left : goal.returns-clause-left
returns-clause-left g c = λ story at told.
    let old = c.args.self.now in
    let new = c.close.new.self in
    let s = c.args.source in
    some-left c.close.result (flow_of old.engine.engine) old.digests new.engine.engine new.digests new.arrivals (g.K.Store.view new.store).records new.turn
    (after_close s at.0) (after_close s story) at.0 (after_close s at.0) c.close.ensures.flow c.close.ensures.digests (c.close.ensures.closed at.0 story at.1)
    (c.close.ensures.left at.0 story at.1)
