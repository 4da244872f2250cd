use Rattle.std.proofs.Common.{◌≡◌, true, take}
use Rattle.std.specs.List.{AllByRecursion}
use Rattle.fw_time.specs.Stamp.{in_domain}
use Rattle.fw_frontier.specs.Few.{stamps_of_few}
use Rattle.fw_frontier.specs.Front.{IsFrontOf}
use Rattle.fw_frontier.specs.Frontier.{cover}
use Rattle.fw_frontier.proofs.few.Few.covering.Given as goal

abbrev pub invariant-loop-s : goal.invariant-loop-s
invariant-loop-s l = AllByRecursion (λ s. in_domain l.bounds s ≡ true) l.stamps → IsFrontOf l.bounds (stamps_of_few l.covered) (cover l.bounds (take l.s-index l.stamps))
