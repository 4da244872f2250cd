use Rattle.fw_held.proofs.HeldStepLaws.{sweep-held}
use Rattle.fw_held.proofs.StoreLaws.{there-stored}
use Rattle.fw_held.proofs.restartable.RestartableEngineHeldEngine.sweep.Goals as goal

pub sweep-requires : goal.sweep-requires
sweep-requires g c = record {
  stored = c.share.ensures.stored (g.K.Store.view c.args.store.now).records (there-stored c.args.self.now.engine.running.parts.keep (g.K.Store.view c.args.store.now).records c.requires.stored);
}

pub returns : goal.returns
returns g c = sweep-held (record { keep = c.share.ensures.keep; flow = c.share.ensures.flow; stands = c.share.ensures.stands }) c.sweep.ensures
