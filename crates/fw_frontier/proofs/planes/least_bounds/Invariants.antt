use Rattle.std.proofs.Common.{◌≡◌, ◌++◌, drop}
use Rattle.fw_frontier.specs.Planes.{planes_lubs}
use Rattle.fw_frontier.specs.declared.planes.TheConstants.{PLANES}
use Rattle.fw_frontier.proofs.planes.least_bounds.Given as goal

abbrev pub invariant-loop-plane : goal.invariant-loop-plane
invariant-loop-plane l = l.found.items ++ planes_lubs (drop l.plane-index PLANES) l.mine l.others ≡ planes_lubs PLANES l.mine l.others
