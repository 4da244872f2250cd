use Rattle.fw_model.proofs.ChoiceLaws.{union-consistent}
use Rattle.fw_model.proofs.laws.union_of_consistent_is_consistent.Goals as goal

pub returns : goal.returns
returns c = union-consistent
