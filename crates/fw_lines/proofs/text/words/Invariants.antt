use Rattle.std.proofs.Common.{◌≡◌, ◌+◌, ◌-◌, ◌≤◌, ◌++◌, map, IfSome}
use Rattle.std.specs.Option.{option_map_or}
use Rattle.fw_lines.specs.Lines.{bytes_at, words_of}
use Rattle.fw_lines.proofs.WordLaws.{words_left}
use Rattle.fw_lines.proofs.text.words.Given as goal

abbrev pub invariant-loop-from : goal.invariant-loop-from
invariant-loop-from l = record {
  within : IfSome l.from (λ at. at ≤ l.line.to);
  words : map (bytes_at l.text) l.words.items ++ words_left l.text l.line.to l.from ≡ words_of (bytes_at l.text l.line);
}

abbrev pub decreases-loop-from : goal.decreases-loop-from
decreases-loop-from l = option_map_or (λ at. l.line.to + 1 - at) l.from 0
