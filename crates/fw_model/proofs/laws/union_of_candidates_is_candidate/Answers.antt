use Rattle.fw_model.proofs.ChoiceLaws.{candidates-union}
use Rattle.fw_model.proofs.laws.union_of_candidates_is_candidate.Goals as goal

pub returns : goal.returns
returns c = candidates-union
