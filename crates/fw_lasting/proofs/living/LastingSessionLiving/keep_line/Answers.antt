use Rattle.fw_engine.specs.Engine.{flow_of}
use Rattle.fw_session.specs.Story.{Story}
use Rattle.fw_lasting.specs.UnderWay.{IsUnderWay, SaysLast}
use Rattle.fw_lasting.proofs.LivingLaws.{kept-one, some-kept}
use Rattle.fw_lasting.proofs.living.LastingSessionLiving.keep_line.Goals as goal

pub returns-clause-kept : goal.returns-clause-kept
returns-clause-kept g c = λ story at.
    let new = c.keep_line.new.self in
    let records = (g.K.Store.view new.store).records in
    kept-one (λ kept now. IsUnderWay new.digests new.engine.engine new.arrivals records new.turn kept now)
    (SaysLast (flow_of new.engine.engine) new.digests story new.steps c.args.lines.now records) story c.keep_line.result
    (c.keep_line.ensures.kept at.0 story at.1)

pub returns-clause-left : goal.returns-clause-left
returns-clause-left g c = λ story at told.
    let old = c.args.self.now in
    let new = c.keep_line.new.self in
    let records = (g.K.Store.view new.store).records in
    some-kept c.keep_line.result (flow_of old.engine.engine) old.digests new.engine.engine new.digests new.arrivals records new.turn at.0 story
    (SaysLast (flow_of new.engine.engine) new.digests story new.steps c.args.lines.now records) c.keep_line.ensures.flow c.keep_line.ensures.digests
    (c.keep_line.ensures.kept at.0 story at.1) (c.keep_line.ensures.left at.0 story at.1)
