use Rattle.std.proofs.Common.{◌≡◌, ◌++◌, drop}
use Rattle.fw_flow.specs.ProjectedStamps.{images}
use Rattle.fw_flow.proofs.projection.images.Given as goal

abbrev pub invariant-loop-o : goal.invariant-loop-o
invariant-loop-o l = l.all.items ++ images l.way (drop l.o-index l.stamps) ≡ images l.way l.stamps
