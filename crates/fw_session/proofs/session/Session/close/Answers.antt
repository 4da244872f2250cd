use Rattle.std.proofs.Common.{refl}
use Rattle.std.proofs.Math.Logic.{∥∥₁_map}
use Rattle.fw_session.specs.Story.{after_close}
use Rattle.fw_session.proofs.SessionLaws.{closes-to, to-some}
use Rattle.fw_session.proofs.session.Session.close.Goals as goal

pub invariant_of-self : goal.invariant_of-self
invariant_of-self g c =
    let old = c.args.self.now in
    let records = (g.K.Store.view old.store).records in
    let by = c.close.ensures in
    record {
      stored = old.stored;
      real = ∥∥₁_map old.real (to-some old.engine old.engine records old.arrivals c.close.new.self c.close.result (after_close c.args.source)
          (closes-to old.engine records old.arrivals c.close.new.self c.args.source c.close.result by.open by.opened by.came)
          (λ e. refl) by.stays refl);
    }

pub returns-clause-closes : goal.returns-clause-closes
returns-clause-closes g c =
    let old = c.args.self.now in
    let by = c.close.ensures in
    closes-to old.engine (g.K.Store.view old.store).records old.arrivals c.close.new.self c.args.source c.close.result by.open by.opened by.came
