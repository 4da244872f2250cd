use Rattle.fw_model.specs.Choice.{cut_of}
use Rattle.fw_progress.specs.Cut.{epochs_left}
use Rattle.fw_progress.proofs.CutCountLaws.{HaveLeft}
use Rattle.fw_progress.proofs.cut.cut_injected.Given as goal

abbrev pub invariant-loop-place : goal.invariant-loop-place
invariant-loop-place l = HaveLeft 0 (λ p n. epochs_left (cut_of l.choice p) n) l.place l.fn.injected.items l.injected.items
