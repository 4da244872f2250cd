use Rattle.std.proofs.Common.{◌≡◌, take, length}
use Rattle.fw_frontier.proofs.tops.with_coord.Given as goal

abbrev pub invariant-loop-i : goal.invariant-loop-i
invariant-loop-i l = (length l.coords ≡ 4) × (take l.i l.coords ≡ take l.i l.t)
