use Rattle.fw_model.proofs.RestoringLaws.{watermarks-today}
use Rattle.fw_model.proofs.laws.kept_watermarks_lie_within_today.Goals as goal

pub returns : goal.returns
returns c = watermarks-today
