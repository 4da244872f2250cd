use Rattle.std.proofs.Common.{◌-◌, string_bytes}
use Rattle.fw_generate.specs.Draws.{words_drawn}
use Rattle.fw_lines.specs.Written.{behind_space}
use Rattle.fw_generate.specs.Texts.{rec_word}
use Rattle.fw_generate.proofs.Writing.{IsWrittenSoFar}
use Rattle.fw_generate.proofs.inputs.write_recs.Given as goal

abbrev pub invariant-loop : goal.invariant-loop
invariant-loop l =
    IsWrittenSoFar rec_word behind_space l.count (l.count - l.counter) (words_drawn l.initial.generator) (words_drawn l.generator)
    (string_bytes l.initial.text) (string_bytes l.text)
