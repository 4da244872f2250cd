use Rattle.std.proofs.Common.{[]}
use Rattle.fw_model.specs.Choice.{cut_of}
use Rattle.fw_progress.specs.Cut.{tally_left}
use Rattle.fw_progress.proofs.CutCountLaws.{HaveLeft}
use Rattle.fw_progress.proofs.cut.cut_owed.Given as goal

abbrev pub invariant-loop-place : goal.invariant-loop-place
invariant-loop-place l = HaveLeft [] (λ p entries. tally_left (cut_of l.choice p) entries) l.place l.fn.owed.items l.owed.items
