use Rattle.std.proofs.Common.{◌≡◌, ℕ, ◌∷◌, [], take}
use Rattle.fw_frontier.specs.Front.{inside}
use Rattle.fw_border.specs.Numbers.{is_number_below}
use Rattle.fw_border.proofs.number.first_outside.Given as goal

abbrev pub invariant-loop-o : goal.invariant-loop-o
invariant-loop-o l = (x : ℕ) → inside (take l.o-index l.o-items) (x ∷ []) ≡ is_number_below l.first x
