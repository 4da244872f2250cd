use Rattle.std.proofs.Common.{◌≡◌, ℕ, List, length}
use Rattle.fw_disk.specs.RunLines.{digests_of, if_any, told_after, digests_told, whole_lines}
use Rattle.fw_disk.proofs.lines.lines_in.Given as goal

abbrev pub invariant-loop-line : goal.invariant-loop-line
invariant-loop-line l =
    (id : ℕ) → (before : List (List ℕ)) × (digests_of l.lines.told id ≡ if_any before) × (told_after (whole_lines l.rest) id before ≡ digests_told (whole_lines l.text) id)

abbrev pub decreases-loop-line : goal.decreases-loop-line
decreases-loop-line l = length l.rest
