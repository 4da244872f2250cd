use Rattle.fw_progress.proofs.StartLaws.{IsDescending, left_inside}
use Rattle.fw_progress.proofs.start.largest.Given as goal

abbrev pub invariant-take : goal.invariant-take
invariant-take l = IsDescending l.flow l.counts l.fronts.items l.work

abbrev pub decreases-take : goal.decreases-take
decreases-take l = left_inside l.flow l.fronts.items l.work
