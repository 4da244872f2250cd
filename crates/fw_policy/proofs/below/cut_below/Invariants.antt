use Rattle.std.proofs.Common.{◌≡◌, true, take}
use Rattle.std.specs.List.{AllByRecursion}
use Rattle.fw_time.specs.Stamp.{in_domain}
use Rattle.fw_time.specs.declared.stamp.Bounds.{Bounds}
use Rattle.fw_frontier.specs.Front.{frontier_of, IsCanonical, IsFrontOf}
use Rattle.fw_policy.specs.Offering.{below_all}
use Rattle.fw_policy.proofs.below.cut_below.Given as goal

abbrev pub invariant-loop-t : goal.invariant-loop-t
invariant-loop-t l = (bounds : Bounds) → IsCanonical bounds l.front → AllByRecursion (λ s. in_domain bounds s ≡ true) l.stamps
    → IsFrontOf bounds l.left (below_all (take l.t-index l.stamps) (frontier_of bounds l.front))
