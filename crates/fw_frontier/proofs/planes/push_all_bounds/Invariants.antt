use Rattle.std.proofs.Common.{◌≡◌, ◌++◌, drop}
use Rattle.fw_frontier.specs.Planes.{all_lubs}
use Rattle.fw_frontier.proofs.planes.push_all_bounds.Given as goal

abbrev pub invariant-loop-s : goal.invariant-loop-s
invariant-loop-s l = l.found.items ++ all_lubs l.plane l.sides.mine.items l.sides.others.items (drop l.s-index l.firsts) l.seconds ≡ l.fn.found.items ++ all_lubs l.plane l.sides.mine.items l.sides.others.items l.firsts l.seconds
