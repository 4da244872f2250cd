use Rattle.std.proofs.lemmas.Result.{on_ok_weaker}
use Rattle.fw_generate.proofs.Writing.{round_written}
use Rattle.fw_generate.proofs.schedule.write_round.Goals as goal

pub returns : goal.returns
returns c =
    on_ok_weaker c.write_lines_for.result (round_written _ _ _ _ _ _ _ _ c.in_ok-write_auto.ensures c.draw-number.ensures.value) c.write_lines_for.ensures
