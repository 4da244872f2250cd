use Rattle.std.proofs.Common.{◌≡◌, ◌≤◌, ◌<◌, ◌*◌, ℕ, false}
use Rattle.fw_places.specs.Marks.{has_mark}
use Rattle.fw_places.proofs.places.next_mark.Given as goal

abbrev pub invariant-loop-i : goal.invariant-loop-i
invariant-loop-i l = (q : ℕ) → l.from ≤ q → q < l.i * 64 → has_mark l.words q ≡ false
