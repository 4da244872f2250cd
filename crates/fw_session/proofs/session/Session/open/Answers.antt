use Rattle.fw_session.specs.Story.{opening}
use Rattle.fw_session.proofs.SessionLaws.{at-opened}
use Rattle.fw_session.proofs.session.Session.open.Goals as goal

pub invariant_of-result : goal.invariant_of-result
invariant_of-result g c =
    let records = (g.K.Store.view c.args.store).records in
    let engine = c.in_ok-engine in
    let arrivals = c.in_ok-arrivals in
    record {
      stored = engine.ensures.stored records c.requires;
      real = ∣ (λ live some. (
        opening c.args.flow,
        at-opened engine.engine records arrivals.arrivals c.args.flow (engine.ensures.opened records)
            arrivals.ensures.opened arrivals.ensures.came,
      )) ∣₁;
    }

pub returns-clause-at : goal.returns-clause-at
returns-clause-at g c =
    let records = (g.K.Store.view c.args.store).records in
    let engine = c.in_ok-engine in
    let arrivals = c.in_ok-arrivals in
    at-opened engine.engine records arrivals.arrivals c.args.flow (engine.ensures.opened records) arrivals.ensures.opened arrivals.ensures.came

pub returns-clause-flow : goal.returns-clause-flow
returns-clause-flow g c = (c.in_ok-engine.ensures.opened (g.K.Store.view c.args.store).records).of_flow
