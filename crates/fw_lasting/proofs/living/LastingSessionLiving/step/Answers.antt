use Rattle.fw_engine.specs.Engine.{flow_of}
use Rattle.fw_session.specs.Story.{Story}
use Rattle.fw_lasting.specs.UnderWay.{IsUnderWay}
use Rattle.fw_lasting.proofs.LivingLaws.{some-still, step-one}
use Rattle.fw_lasting.proofs.living.LastingSessionLiving.step.Goals as goal

pub returns-clause-goes_on : goal.returns-clause-goes_on
returns-clause-goes_on g c =
    let old = c.args.self.now in
    let new = c.step.new.self in
    let view = g.K.Store.view in
    step-one (flow_of old.engine.engine)
    (λ kept now. IsUnderWay old.digests old.engine.engine old.arrivals (view old.store).records old.turn kept now)
    (λ kept now. IsUnderWay new.digests new.engine.engine new.arrivals (view new.store).records new.turn kept now)
    c.args.step.now c.step.result (view new.store).records c.step.ensures.goes_on

pub returns-clause-left : goal.returns-clause-left
returns-clause-left g c = λ story at told.
    let old = c.args.self.now in
    let new = c.step.new.self in
    some-still (flow_of old.engine.engine) (flow_of new.engine.engine) old.digests new.digests (g.K.Store.view new.store).records at.0
    c.step.ensures.flow c.step.ensures.digests (c.step.ensures.holds at.0 story at.1)
