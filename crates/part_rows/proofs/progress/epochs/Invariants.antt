use Rattle.fw_progress.specs.Progress.{IsProgressOf}
use Rattle.part_rows.proofs.progress.epochs.Given as goal

abbrev pub invariant-loop-epoch : goal.invariant-loop-epoch
invariant-loop-epoch l = IsProgressOf l.flow l.progress
