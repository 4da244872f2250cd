use Rattle.std.proofs.Common.{◌≡◌, ◌+◌, ◌-◌, ◌++◌, map, length, IfSome}
use Rattle.std.specs.Option.{option_map_or}
use Rattle.fw_lines.specs.Lines.{said_in, lines_left, said_lines, IsPlace}
use Rattle.fw_lines.proofs.text.lines.Given as goal

abbrev pub invariant-loop-place : goal.invariant-loop-place
invariant-loop-place l = record {
  within : IfSome l.place (IsPlace l.text);
  said : map (said_in l.text) l.items.items ++ lines_left l.text l.place ≡ said_lines l.text;
}

abbrev pub decreases-loop-place : goal.decreases-loop-place
decreases-loop-place l = option_map_or (λ p. length l.text + 1 - p.from) l.place 0
