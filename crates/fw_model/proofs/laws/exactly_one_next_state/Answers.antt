use Rattle.fw_model.proofs.SomeNextLaws.{exactly_one_next}
use Rattle.fw_model.proofs.laws.exactly_one_next_state.Goals as goal

pub returns : goal.returns
returns c = exactly_one_next
