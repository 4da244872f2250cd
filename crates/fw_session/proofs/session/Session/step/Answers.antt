use Rattle.std.proofs.Math.Logic.{∥∥₁_map}
use Rattle.fw_session.proofs.TurnLaws.{held-goes_on, step-goes_on, step-real}
use Rattle.fw_session.proofs.session.Session.step.Goals as goal

pub returns-then-is_held_back-clause-goes_on : goal.returns-then-is_held_back-clause-goes_on
returns-then-is_held_back-clause-goes_on g c =
    let old = c.args.self.now in
    let records = (g.K.Store.view old.store).records in
    held-goes_on old.engine records c.args.step.now old.arrivals (λ story at. c.is_held_back.ensures.held records story at c.if-is_held_back.true)

pub invariant_of-self-2 : goal.invariant_of-self-2
invariant_of-self-2 g c =
    let old = c.args.self.now in
    let records = (g.K.Store.view old.store).records in
    record {
      stored = c.step.ensures.stored;
      real = ∥∥₁_map old.real (step-real g.K.Store.view old.engine old.store c.args.step.now c.step.result c.step.new.self c.step.new.store old.arrivals
          c.step.ensures (λ story at. c.is_held_back.ensures.free records story at c.if-is_held_back.false));
    }

pub returns-clause-goes_on : goal.returns-clause-goes_on
returns-clause-goes_on g c =
    let old = c.args.self.now in
    let records = (g.K.Store.view old.store).records in
    step-goes_on g.K.Store.view old.engine old.store c.args.step.now c.step.result c.step.new.self c.step.new.store old.arrivals c.step.ensures
    (λ story at. c.is_held_back.ensures.free records story at c.if-is_held_back.false)
