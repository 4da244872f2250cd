use Rattle.fw_model.proofs.FilteredLaws.{filtered-legal}
use Rattle.fw_model.proofs.laws.filtered_history_is_legal.Goals as goal

pub returns : goal.returns
returns c = filtered-legal
