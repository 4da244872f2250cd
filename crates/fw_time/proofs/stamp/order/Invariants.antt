use Rattle.std.proofs.Common.{◌≡◌, drop}
use Rattle.fw_time.specs.Stamp.{stamp_cmp}
use Rattle.fw_time.proofs.stamp.order.Given as goal

abbrev pub invariant-loop-i : goal.invariant-loop-i
invariant-loop-i l = stamp_cmp (drop l.i l.coords) (drop l.i l.others) ≡ stamp_cmp l.coords l.others
