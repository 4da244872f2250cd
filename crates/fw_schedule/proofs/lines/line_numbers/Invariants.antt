use Rattle.std.proofs.Common.{◌≡◌, ◌+◌, ◌-◌, ◌++◌, length, IfSome}
use Rattle.std.specs.Option.{option_map_or}
use Rattle.fw_lines.specs.Lines.{lines_left, IsPlace}
use Rattle.fw_schedule.specs.LineNumbers as spec
use Rattle.fw_schedule.proofs.lines.line_numbers.Given as goal

abbrev pub invariant-loop-place : goal.invariant-loop-place
invariant-loop-place l = record {
  within : IfSome l.place (IsPlace l.text);
  read : l.numbers.items ++ spec.numbers_said (lines_left l.text l.place) ≡ spec.line_numbers l.text;
}

abbrev pub decreases-loop-place : goal.decreases-loop-place
decreases-loop-place l = option_map_or (λ p. length l.text + 1 - p.from) l.place 0
