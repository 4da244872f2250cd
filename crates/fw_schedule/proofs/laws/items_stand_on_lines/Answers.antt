use Rattle.fw_schedule.proofs.LineNumberLaws.{stand_on_lines}
use Rattle.fw_schedule.proofs.laws.items_stand_on_lines.Goals as goal

pub returns : goal.returns
returns c = stand_on_lines
