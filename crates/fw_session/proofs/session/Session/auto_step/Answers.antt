use Rattle.std.proofs.Common.{sym, ◌∙◌}
use Rattle.std.proofs.Math.Logic.{∥∥₁_map}
use Rattle.fw_session.proofs.TurnLaws.{first-goes_on, first-real, within-kept}
use Rattle.fw_session.proofs.session.Session.auto_step.Goals as goal

pub invariant_of-self : goal.invariant_of-self
invariant_of-self g c =
    let old = c.args.self.now in
    let by = c.auto_step_within in
    let answers = within-kept g.K.Store.view old.engine old.store by.result by.new.self by.new.store old.arrivals c.deref.result.now
    c.deref.ensures.value by.ensures in
    record {
      stored = by.ensures.stored;
      real = ∥∥₁_map old.real (first-real g.K.Store.view old.engine old.store by.result by.new.self by.new.store old.arrivals answers);
    }

pub returns-clause-goes_on : goal.returns-clause-goes_on
returns-clause-goes_on g c =
    let old = c.args.self.now in
    let by = c.auto_step_within in
    first-goes_on g.K.Store.view old.engine old.store by.result by.new.self by.new.store old.arrivals
    (within-kept g.K.Store.view old.engine old.store by.result by.new.self by.new.store old.arrivals c.deref.result.now c.deref.ensures.value by.ensures)

pub returns-clause-told_before : goal.returns-clause-told_before
returns-clause-told_before g c = λ some. sym c.auto_step_within.ensures.tells ∙ some
