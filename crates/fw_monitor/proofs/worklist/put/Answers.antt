use Rattle.std.proofs.Common.{◌∷◌, [], true, set, sym, subst}
use Rattle.fw_monitor.specs.Worklist.{AreMadeToWait}
use Rattle.fw_monitor.proofs.WorklistLaws.{put_one}
use Rattle.fw_monitor.proofs.worklist.put.Goals as goal

pub returns : goal.returns
returns c =
    subst (λ n. AreMadeToWait c.args.flow.now (c.args.inclusion ∷ []) c.args.waiting.now.items (set c.args.waiting.now.items n true)) (sym c.number.ensures)
    (put_one c.args.flow.now c.args.waiting.now.items c.args.inclusion c.requires.there)
