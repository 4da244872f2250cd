use Rattle.fw_model.proofs.DependenceLaws.{out_bags-depend}
use Rattle.fw_model.proofs.laws.out_bags_depend_on_lesser_measure.Goals as goal

pub returns : goal.returns
returns c = out_bags-depend
