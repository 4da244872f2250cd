use Rattle.std.proofs.Common.{◌≡◌, map, drop}
use Rattle.fw_lines.specs.Inputs.{words_fault}
use Rattle.fw_lines.specs.Lines.{bytes_at}
use Rattle.fw_lines.proofs.inputs.words_fault.Given as goal

abbrev pub invariant-loop-word : goal.invariant-loop-word
invariant-loop-word l = words_fault (map (bytes_at l.text) (drop l.word-index l.words)) ≡ words_fault (map (bytes_at l.text) l.words)
