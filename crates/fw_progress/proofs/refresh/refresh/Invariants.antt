use Rattle.fw_progress.proofs.RefreshLaws.{IsRefreshing, left_over}
use Rattle.fw_progress.proofs.refresh.refresh.Given as goal

abbrev pub invariant-take : goal.invariant-take
invariant-take g l = IsRefreshing l.flow l.counts l.fn.fronts.items l.fn.work l.fn.steps l.fronts.items l.work l.growths.items l.steps

abbrev pub decreases-take : goal.decreases-take
decreases-take g l = left_over l.flow l.fronts.items l.work
