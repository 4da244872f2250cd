use Rattle.std.proofs.Common.{◌≡◌, drop}
use Rattle.fw_time.specs.Stamp.{leq}
use Rattle.fw_time.proofs.stamp.at_most.Given as goal

abbrev pub invariant-loop-i : goal.invariant-loop-i
invariant-loop-i l = leq (drop l.i l.coords) (drop l.i l.others) ≡ leq l.coords l.others
