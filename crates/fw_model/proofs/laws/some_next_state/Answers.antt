use Rattle.fw_model.proofs.SomeNextLaws.{some_next}
use Rattle.fw_model.proofs.laws.some_next_state.Goals as goal

pub returns : goal.returns
returns c = some_next
