use Rattle.std.proofs.Common.{subst, sym, ◌∙◌}
use Rattle.std.proofs.lemmas.Result.{err_from_is_err_and}
use Rattle.fw_flow.specs.WellFormed.{IsWellFormed}
use Rattle.fw_held.proofs.HeldStepLaws.{raise-held, raise-refused, step-held}
use Rattle.fw_held.proofs.StoreLaws.{there-stored}
use Rattle.fw_held.proofs.restartable.RestartableEngineHeldEngine.step_held.Goals as goal

pub step-requires : goal.step-requires
step-requires g c = record {
  stored = c.share.ensures.stored (g.K.Store.view c.args.store.now).records (there-stored c.args.self.now.engine.running.parts.keep (g.K.Store.view c.args.store.now).records c.requires.stored);
}

pub returns-in_err-raise_low-in-Collect : goal.returns-in_err-raise_low-in-Collect
returns-in_err-raise_low-in-Collect g c =
    let p = err_from_is_err_and c.from_residual.result c.from_residual.ensures.1 in
    rw (c.in-Collect.is, p.1, p.2) (raise-refused (record { keep = c.share.ensures.keep; flow = c.share.ensures.flow; stands = c.share.ensures.stands })
    (c.share.ensures.stored (g.K.Store.view c.args.store.now).records (there-stored c.args.self.now.engine.running.parts.keep (g.K.Store.view c.args.store.now).records c.requires.stored)) c.in_err-raise_low-in-Collect.ensures)

pub returns-in_ok-raise_low-in-Collect : goal.returns-in_ok-raise_low-in-Collect
returns-in_ok-raise_low-in-Collect g c = rw c.in-Collect.is (raise-held (record { keep = c.share.ensures.keep; flow = c.share.ensures.flow; stands = c.share.ensures.stands })
    (c.share.ensures.stored (g.K.Store.view c.args.store.now).records (there-stored c.args.self.now.engine.running.parts.keep (g.K.Store.view c.args.store.now).records c.requires.stored)) c.in_ok-raise_low-in-Collect.ensures)

pub returns-in_default : goal.returns-in_default
returns-in_default g c =
    step-held (record { keep = c.share.ensures.keep; flow = c.share.ensures.flow; stands = c.share.ensures.stands })
    (subst IsWellFormed (c.flow.ensures ∙ sym c.share.ensures.flow) c.flow_is_well_formed.ensures) c.in_default.not-Collect c.step.ensures
