use Rattle.fw_choose.specs.Chosen.{AreViewsBy}
use Rattle.fw_choose.proofs.viewing.views.Given as goal

abbrev pub invariant-loop-place : goal.invariant-loop-place
invariant-loop-place l = AreViewsBy l.running l.lost l.place l.views.items
