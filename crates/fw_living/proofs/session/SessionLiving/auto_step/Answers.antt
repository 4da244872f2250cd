use Rattle.fw_session.specs.Session.{IsAt}
use Rattle.fw_living.proofs.LivingLaws.{auto-on}
use Rattle.fw_living.proofs.session.SessionLiving.auto_step.Goals as goal

pub returns-clause-goes_on : goal.returns-clause-goes_on
returns-clause-goes_on g c =
    let old = c.args.self.now in
    let new = c.auto_step.new.self in
    let view = g.K.Store.view in
    auto-on old.engine (view old.store).records old.arrivals c.auto_step.result (IsAt new.engine (view new.store).records new.arrivals)
    c.auto_step.ensures.goes_on

pub returns-clause-calls : goal.returns-clause-calls
returns-clause-calls g c = c.auto_step.ensures.leaves.calls

pub returns-clause-tells : goal.returns-clause-tells
returns-clause-tells g c = c.auto_step.ensures.leaves.tells
