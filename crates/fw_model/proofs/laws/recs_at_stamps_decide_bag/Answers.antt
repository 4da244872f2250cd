use Rattle.fw_model.proofs.DependenceLaws.{recs_decide}
use Rattle.fw_model.proofs.laws.recs_at_stamps_decide_bag.Goals as goal

pub returns : goal.returns
returns c = recs_decide
