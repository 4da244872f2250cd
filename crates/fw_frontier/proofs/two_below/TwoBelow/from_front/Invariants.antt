use Rattle.std.proofs.Common.{◌≡◌, true, take, [], ◌∷◌}
use Rattle.fw_time.specs.Stamp.{is_of_side}
use Rattle.fw_time.specs.declared.time.Both.{Both}
use Rattle.fw_frontier.specs.Front.{inside}
use Rattle.fw_frontier.specs.Sides.{is_below_side}
use Rattle.fw_frontier.proofs.two_below.TwoBelow.from_front.Given as goal

abbrev pub invariant-loop-o : goal.invariant-loop-o
invariant-loop-o l =
    (l.o-items ≡ l.front)
    × ((s : Both) → is_of_side (s.first ∷ s.second ∷ []) ≡ true → is_below_side l.kept.first.until l.kept.second.until s.first s.second ≡ inside (take l.o-index l.o-items) (s.first ∷ s.second ∷ []))
