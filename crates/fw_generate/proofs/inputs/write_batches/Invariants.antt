use Rattle.std.proofs.Common.{◌-◌, string_bytes}
use Rattle.fw_generate.specs.Draws.{words_drawn}
use Rattle.fw_lines.specs.Written.{line_text}
use Rattle.fw_generate.specs.Texts.{batch_line}
use Rattle.fw_generate.proofs.Writing.{IsWrittenSoFar}
use Rattle.fw_generate.proofs.inputs.write_batches.Given as goal

abbrev pub invariant-loop : goal.invariant-loop
invariant-loop l =
    IsWrittenSoFar batch_line line_text l.size (l.size - l.counter) (words_drawn l.initial.generator) (words_drawn l.generator)
    (string_bytes l.initial.text) (string_bytes l.text)
