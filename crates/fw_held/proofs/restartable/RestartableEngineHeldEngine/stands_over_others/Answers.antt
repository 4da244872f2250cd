use Rattle.std.proofs.Common.{subst}
use Rattle.fw_keep.specs.Catalogue.{IsCatalogue}
use Rattle.fw_running.specs.declared.running.Running.{Running}
use Rattle.fw_held.proofs.StoreLaws.{entry-drawn, over-stands, over-there}
use Rattle.fw_held.proofs.restartable.RestartableEngineHeldEngine.stands_over_others.Goals as goal

pub returns : goal.returns
returns c =
    let running = c.args.self.now.engine.running in
    let well = subst (λ (r : Running). IsCatalogue r.parts.keep) c.running.ensures.running c.ids_are_drawn.ensures in
    record {
      stands = λ sys state old new kept s. over-stands sys state running old new kept s;
      stored = λ old new kept there. over-there running.parts.keep old new kept there;
      drawn = λ id there. entry-drawn running.parts.keep id well there;
    }
