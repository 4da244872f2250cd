use Rattle.std.proofs.Common.{subst, sym, ◌∙◌}
use Rattle.fw_flow.specs.WellFormed.{IsWellFormed}
use Rattle.fw_held.proofs.HeldStepLaws.{first-held}
use Rattle.fw_held.proofs.StoreLaws.{there-stored}
use Rattle.fw_held.proofs.restartable.RestartableEngineHeldEngine.auto_step_held.Goals as goal

pub auto_step-requires : goal.auto_step-requires
auto_step-requires g c = record {
  stored = c.share.ensures.stored (g.K.Store.view c.args.store.now).records (there-stored c.args.self.now.engine.running.parts.keep (g.K.Store.view c.args.store.now).records c.requires.stored);
}

pub returns : goal.returns
returns g c =
    first-held (record { keep = c.share.ensures.keep; flow = c.share.ensures.flow; stands = c.share.ensures.stands })
    (subst IsWellFormed (c.flow.ensures ∙ sym c.share.ensures.flow) c.flow_is_well_formed.ensures) c.auto_step.ensures
