use Rattle.fw_totals.proofs.SinceLaws.{changes_over}
use Rattle.fw_totals.proofs.laws.changes_join.Goals as goal

pub returns : goal.returns
returns c = λ inside after came sub. changes_over inside after sub came
