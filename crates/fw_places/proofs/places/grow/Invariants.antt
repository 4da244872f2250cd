use Rattle.std.proofs.Common.{◌≡◌, ◌≤◌, ◌+◌, ◌-◌, length}
use Rattle.fw_places.specs.Marks.{marked}
use Rattle.fw_places.proofs.places.grow.Given as goal

abbrev pub invariant-loop-words : goal.invariant-loop-words
invariant-loop-words l = record { same : marked l.words.items ≡ marked l.initial.words.items; few : length l.words.items ≤ 67108864 }

abbrev pub decreases-loop-words : goal.decreases-loop-words
decreases-loop-words l = l.i + 1 - length l.words.items
