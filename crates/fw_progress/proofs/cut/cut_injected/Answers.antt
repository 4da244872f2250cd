use Rattle.fw_model.specs.Choice.{cut_of}
use Rattle.fw_progress.specs.Cut.{epochs_left}
use Rattle.fw_progress.proofs.CutCountLaws.{left_none, left_more}
use Rattle.fw_progress.proofs.cut.cut_injected.Goals as goal

pub loop-place-init : goal.loop-place-init
loop-place-init c = left_none 0 (λ p n. epochs_left (cut_of c.args.choice.now p) n) c.args.injected.now.items

pub loop-place-preserved : goal.loop-place-preserved
loop-place-preserved c =
    left_more 0 (λ p n. epochs_left (cut_of c.args.choice.now p) n) c.loop-place.place c.args.injected.now.items c.loop-place.injected.items c.cut_injected_at.new.injected.items
    c.loop-place.invariant c.cut_injected_at.ensures
