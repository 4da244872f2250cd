use Rattle.std.proofs.Common.{◌≡◌, ◌++◌, drop}
use Rattle.fw_frontier.specs.Planes.{lubs_with}
use Rattle.fw_frontier.proofs.planes.push_bounds.Given as goal

abbrev pub invariant-loop-p : goal.invariant-loop-p
invariant-loop-p l = l.found.items ++ lubs_with l.plane l.sides.mine.items l.sides.others.items l.s (drop l.p-index l.stamps) ≡ l.fn.found.items ++ lubs_with l.plane l.sides.mine.items l.sides.others.items l.s l.stamps
