use Rattle.std.proofs.Common.{◌≡◌, take}
use Rattle.fw_time.specs.Padded.{padded}
use Rattle.fw_time.proofs.stamp.placed.Given as goal

abbrev pub invariant-loop-i : goal.invariant-loop-i
invariant-loop-i l = l.all ≡ padded 4 (take l.i l.coords)
