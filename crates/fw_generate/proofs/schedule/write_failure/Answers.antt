use Rattle.std.proofs.lemmas.Result.{on_ok_weaker}
use Rattle.fw_generate.proofs.Writing.{failure_written}
use Rattle.fw_generate.proofs.schedule.write_failure.Goals as goal

pub returns : goal.returns
returns c = on_ok_weaker c.write.result (failure_written _ _ _ _ _ _ c.draw.ensures.value c.node_name-name.ensures) c.write.ensures.bytes
