use Rattle.std.proofs.Common.{◌≡◌, ◌++◌, drop}
use Rattle.fw_frontier.specs.Planes.{corners_of}
use Rattle.fw_frontier.specs.declared.planes.TheConstants.{PAST}
use Rattle.fw_frontier.proofs.planes.corners_of.Given as goal

abbrev pub invariant-loop-point : goal.invariant-loop-point
invariant-loop-point l = l.corners.items ++ corners_of (drop l.point-index l.points) l.z_end l.w_end l.low ≡ corners_of l.points l.z_end l.w_end PAST
