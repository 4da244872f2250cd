use Rattle.std.proofs.Common.{sym, ◌∙◌}
use Rattle.fw_held.proofs.RootLaws.{root-held}
use Rattle.fw_held.proofs.restartable.RestartableEngineHeldEngine.root.Goals as goal

pub root_of-requires : goal.root_of-requires
root_of-requires c = record { shaped = c.running-running.ensures.shaped (sym c.is_refused.ensures ∙ c.if-is_refused.false) }

pub returns : goal.returns
returns c =
    let told = c.root_of.ensures in
    root-held c.args.self.now c.args.mark c.root_of.result c.running-running.result.now c.running-running.ensures.running c.ids_are_drawn.ensures
    told.mark told.told told.root told.named told.sound
