use Rattle.fw_model.proofs.ToldLaws.{totals-sum}
use Rattle.fw_model.proofs.laws.totals_sum_what_was_told.Goals as goal

pub returns : goal.returns
returns c = totals-sum
