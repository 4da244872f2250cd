use Rattle.std.proofs.Common.{codes, string_bytes}
use Rattle.std.proofs.lemmas.Result.{on_ok_weaker}
use Rattle.fw_generate.proofs.Writing.{batch_written, pushed}
use Rattle.fw_generate.proofs.inputs.write_batch.Goals as goal

pub returns : goal.returns
returns c =
    let last = c.push_str-2 in
    on_ok_weaker last.result
    (batch_written _ _ _ _ _ _ _ _ c.draw-count.ensures.value c.in_ok-push_str.ensures.bytes c.in_ok-write_recs.ensures)
    (pushed last.result (string_bytes c.write_recs.new.text) (codes "\n") _ last.ensures.bytes)
