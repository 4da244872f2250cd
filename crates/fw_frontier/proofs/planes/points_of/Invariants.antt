use Rattle.std.proofs.Common.{◌≡◌, take, map}
use Rattle.fw_frontier.specs.Planes.{point_of}
use Rattle.fw_frontier.proofs.planes.points_of.Given as goal

abbrev pub invariant-loop-s : goal.invariant-loop-s
invariant-loop-s l = l.points.items ≡ map (point_of l.plane) (take l.s-index l.stamps)
