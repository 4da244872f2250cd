use Rattle.std.proofs.lemmas.Result.{on_ok_weaker}
use Rattle.fw_generate.proofs.Writing.{rec_written}
use Rattle.fw_generate.proofs.inputs.write_rec.Goals as goal

pub returns : goal.returns
returns c = on_ok_weaker c.write.result (rec_written _ _ _ _ _ _ _ c.draw-key.ensures.value c.draw-value.ensures.value) c.write.ensures.bytes
