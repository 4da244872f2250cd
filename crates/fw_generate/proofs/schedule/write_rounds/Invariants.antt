use Rattle.std.proofs.Common.{◌-◌, string_bytes}
use Rattle.fw_generate.specs.Draws.{words_drawn}
use Rattle.fw_lines.specs.Written.{text_of}
use Rattle.fw_generate.specs.Texts.{round_lines}
use Rattle.fw_generate.proofs.Writing.{IsWrittenSoFar}
use Rattle.fw_generate.proofs.schedule.write_rounds.Given as goal

abbrev pub invariant-loop : goal.invariant-loop
invariant-loop l =
    IsWrittenSoFar round_lines text_of l.size (l.size - l.counter) (words_drawn l.initial.generator) (words_drawn l.generator)
    (string_bytes l.initial.text) (string_bytes l.text)
