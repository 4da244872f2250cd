use Rattle.std.proofs.lemmas.Result.{on_ok_weaker}
use Rattle.fw_generate.proofs.Writing.{auto_written}
use Rattle.fw_generate.proofs.schedule.write_auto.Goals as goal

pub returns : goal.returns
returns c = on_ok_weaker c.writeln.result (auto_written _ _ _ _ _ c.draw.ensures.value) c.writeln.ensures.bytes
