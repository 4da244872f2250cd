use Rattle.std.proofs.Common.{string_bytes}
use Rattle.fw_lines.specs.Written.{text_of}
use Rattle.fw_generate.specs.Texts.{last_lines}
use Rattle.std.proofs.lemmas.Result.{on_ok_weaker}
use Rattle.fw_generate.proofs.Writing.{pushed, schedule_written}
use Rattle.fw_generate.proofs.schedule.write_schedule.Goals as goal

pub returns : goal.returns
returns c =
    let last = c.push_str in
    on_ok_weaker last.result (schedule_written _ _ _ _ _ _ c.in_ok-write_rounds.ensures)
    (pushed last.result (string_bytes c.write_rounds.new.text) (text_of last_lines) _ last.ensures.bytes)
